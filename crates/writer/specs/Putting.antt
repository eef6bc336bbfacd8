-- What the writing functions require of the buffer, and what they leave.
-- Assumes nothing.
use Rattle.std.specs.Prelude.{List, ◌≡◌, ℕ, ◌+◌, ◌≤◌, length, drop}
use Rattle.std.proofs.lemmas.List.Edits.{sets}
use Rattle.coding.specs.declared.JudgingCause.{JudgingCause}
use Rattle.octets.specs.Answer.{Answer}
use Rattle.table.specs.Reading.{table_in}
use Rattle.records.specs.declared.descriptor.Descriptor.{Descriptor}
use Rattle.writer.specs.Standing.{start_at, row_in, Standing}
use Rattle.writer.specs.Rows.{judge_row, row_form}
use Rattle.writer.specs.Told.{written, ended, IsDone}
use Rattle.writer.specs.Notes.{NotedRow}
use Rattle.writer.specs.declared.put.Placed.{Placed}

-- W is done, and what is written of it fits a message and, from a place on, the buffer
pub record Fits {A : Type 0} (f : A → List ℕ) (W : Answer JudgingCause A) (to : ℕ) (buf : List ℕ) : Type 0 where
  pub done : IsDone W
  pub short : length (written f W) ≤ 8192
  pub room : to + length (written f W) ≤ length buf

-- it was written there, and nothing else was
pub record IsPut {A : Type 0} (f : A → List ℕ) (W : Answer JudgingCause A) (v : List ℕ) (to : ℕ) (first last : List ℕ) (r : Placed) : Type 0 where
  pub ends : r.end ≡ ended v W
  pub reaches : r.to ≡ to + length (written f W)
  pub buffer : last ≡ sets first to (written f W)

-- what stands in a node before the entry e is accepted with some levels left, is noted, and fits
pub record Puts (b v notes : List ℕ) (e : Descriptor) (p to : ℕ) (buf : List ℕ) : Type 0 where
  pub level : ℕ
  pub little : length v ≤ 16384
  pub stands : Standing b v e p
  pub fits : Fits (row_form (table_in b) level (row_in b e v p)) (judge_row (table_in b) level (row_in b e v p) (drop (start_at e v p) v)) to buf
  pub noted : NotedRow (table_in b) v notes level (row_in b e v p) (start_at e v p)

-- and was put there
abbrev pub PutBy : {b v notes : List ℕ} {e : Descriptor} {p to : ℕ} {buf : List ℕ} → Puts b v notes e p to buf → List ℕ → Placed → Type 0
PutBy {b} {v} {notes} {e} {p} {to} {buf} x last r =
    IsPut (row_form (table_in b) x.level (row_in b e v p)) (judge_row (table_in b) x.level (row_in b e v p) (drop (start_at e v p) v)) v to buf last r
