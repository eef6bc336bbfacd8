-- A message: the one value that stands in it.
-- Assumes nothing.
use mathlib.Core.List.{List, [], ◌∷◌}
use mathlib.Core.Path.{◌≡◌, sym, ◌∙◌}
use Prim.Native.Nat.{ℕ, ◌≤◌, ◌<◌}
use native.Mathlib.Omega.{arith}
use lib.ListN.{length, drop}
use Rattle.table.specs.Reading.{table_in, count_in}
use Rattle.kinds.specs.Kinds.{octet_of}
use Rattle.records.specs.declared.descriptor.Descriptor.{Descriptor}
use Rattle.coding.specs.Form.{form_at}
use Rattle.coding.specs.Judging.{judge_value}
use Rattle.writer.specs.Standing.{start_at, row_in, Standing}
use Rattle.writer.specs.Rows.{judge_row, row_form}
use Rattle.writer.specs.Told.{Ruling, told}
use Rattle.writer.specs.Notes.{NotedRow, Noting}
use Rattle.writer.specs.Putting.{Fits, IsPut, Puts, PutBy}
use Rattle.writer.specs.declared.put.Placed.{Placed}
use Rattle.writer.proofs.Rows.{Alike, alike_told, alike_written, alike_ended, alike_done, one_row}
use Rattle.writer.proofs.Finding.{message_start, message_row, message_stand}

module _ (b v : List ℕ) (few : count_in b ≤ 128) (t : ℕ) (h : t < count_in b) (e : Descriptor) (k : (octet_of e.kind) ≡ 51) (w : e.own ≡ t) where
  pub whole_stands : Standing b v e 0
  whole_stands = message_stand b v e t 0 k w (omega arith) h

  whole_row : row_in b e v 0 ≡ t ∷ []
  whole_row = message_row b v e t 0 k w (omega arith)

  whole_start : start_at e v 0 ≡ 0
  whole_start = message_start b v e t 0 k w

  pub whole_said : (n : ℕ) (first last : List ℕ) (y : Ruling)
      → (y ≡ told (row_form (table_in b) n (row_in b e v 0)) v (judge_row (table_in b) n (row_in b e v 0) (drop (start_at e v 0) v)))
      × Noting (start_at e v 0) first last y (λ m. NotedRow (table_in b) v m n (row_in b e v 0) (start_at e v 0))
      → (y ≡ told (form_at (table_in b) n t) v (judge_value (table_in b) n t v)) × Noting 0 first last y (λ m. NotedRow (table_in b) v m n (t ∷ []) 0)
  whole_said n first last y S =
      let Q = rw (whole_row, whole_start) at S in
      (Q.0 ∙ sym (alike_told (one_row (table_in b) n t v) v), Q.1)

-- the same to be put
module _ (b v notes : List ℕ) (few : count_in b ≤ 128) (t : ℕ) (h : t < count_in b) (e : Descriptor) (k : (octet_of e.kind) ≡ 51) (w : e.own ≡ t) (n : ℕ)
    (little : length v ≤ 16384) (noted : NotedRow (table_in b) v notes n (t ∷ []) 0) (buf : List ℕ)
    (F : Fits (form_at (table_in b) n t) (judge_value (table_in b) n t v) 0 buf) where
  alike : Alike (form_at (table_in b) n t) (row_form (table_in b) n (t ∷ [])) (judge_value (table_in b) n t v) (judge_row (table_in b) n (t ∷ []) v)
  alike = one_row (table_in b) n t v

  fits : Fits (row_form (table_in b) n (t ∷ [])) (judge_row (table_in b) n (t ∷ []) (drop 0 v)) 0 buf
  fits = let q = alike_written alike in record { done = alike_done alike F.done; short = rw (← q) F.short; room = rw (← q) F.room }

  pub whole_puts : Puts b v notes e 0 0 buf
  whole_puts =
      record {
        level = n;
        little = little;
        stands = whole_stands b v few t h e k w;
        fits = rw (whole_row b v few t h e k w, whole_start b v few t h e k w) fits;
        noted = rw (whole_row b v few t h e k w, whole_start b v few t h e k w) noted;
      }

  pub whole_put : (last : List ℕ) (r : Placed) → PutBy whole_puts last r → IsPut (form_at (table_in b) n t) (judge_value (table_in b) n t v) v 0 buf last r
  unfolding whole_puts
  whole_put last r P =
      let Q = rw (whole_row b v few t h e k w, whole_start b v few t h e k w) at P in
      let q = alike_written alike in
      record { ends = Q.ends ∙ sym (alike_ended alike v); reaches = rw q Q.reaches; buffer = rw q Q.buffer }
