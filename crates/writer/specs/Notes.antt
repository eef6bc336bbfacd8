-- The notes that judging leaves for putting: the length of the contents of each constructed node of a value that is accepted, to 8,193.
-- Such a node takes four octets or more, so that the nodes at two places have two notes if a note stands at a quarter of its place.
-- Assumes nothing.
use Rattle.std.specs.Prelude.{true, List, [], ◌∷◌, ◌≡◌, ℕ, zero, suc, ◌+◌, ◌*◌, ◌/◌, ◌<◌, ◌≤◌, length, get_or, drop}
use Rattle.table.specs.Syntax.{Table, constructed}
use Rattle.coding.specs.Judging.{judge_value}
use Rattle.writer.specs.Nodes.{end_at, node_at}
use Rattle.writer.specs.Frames.{cap}
use Rattle.writer.specs.Rows.{row_of, judge_row, row_form}
use Rattle.writer.specs.Told.{Ruling, fit, written, ended}

-- the note of the node at a place
abbrev pub note_at : List ℕ → ℕ → ℕ
note_at l at = get_or l (at / 4) 0

-- each value of a row is noted, where N says it of a value of a type at a place, and E where that value ends
unfoldable pub EachRow : (ℕ → ℕ → Type 0) → (ℕ → ℕ → ℕ) → List ℕ → ℕ → Type 0
EachRow N E [] from = Unit {0}
EachRow N E (t ∷ ts) from = N t from × EachRow N E ts (E t from)

module _ (T : Table) (v : List ℕ) where
  -- where a value of type t ends that begins at a place
  abbrev pub ends_at : ℕ → ℕ → ℕ → ℕ
  ends_at n t at = ended v (judge_value T n t (drop at v))

  -- what stands in the node at a place, of a value of type t
  abbrev pub row_at : ℕ → ℕ → List ℕ
  row_at t at = row_of (T t).body (node_at v at)

  -- how many octets are written of a row that begins at a place
  abbrev pub length_of : ℕ → List ℕ → ℕ → ℕ
  length_of n ts from = length (written (row_form T n ts) (judge_row T n ts (drop from v)))

  -- l has the notes of a value of type t at a place, where n levels are left
  unfoldable pub Noted : List ℕ → ℕ → ℕ → ℕ → Type 0
  Noted l zero t at = Unit {0}
  Noted l (suc n) t at =
      (constructed (T t).body ≡ true → note_at l at ≡ cap (length_of n (row_at t at) (end_at v at)))
      × EachRow (λ u p. Noted l n u p) (λ u p. ends_at n u p) (row_at t at) (end_at v at)

  -- of the values of a row
  abbrev pub NotedRow : List ℕ → ℕ → List ℕ → ℕ → Type 0
  NotedRow l n ts from = EachRow (λ u p. Noted l n u p) (λ u p. ends_at n u p) ts from

-- m has the notes of l for the nodes that lie between two places
abbrev pub Same : ℕ → ℕ → List ℕ → List ℕ → Type 0
Same at e l m = (i : ℕ) → at < 4 * i + 4 → 4 * i + 4 ≤ e → get_or m i 0 ≡ get_or l i 0

-- what is judged from a place on is noted if it is accepted, and stays so as long as these notes stay; the notes before the place are kept
pub record Noting (at : ℕ) (first last : List ℕ) (r : Ruling) (N : List ℕ → Type 0) : Type 0 where
  pub long : length last ≡ length first
  pub kept : (i : ℕ) → 4 * i + 4 ≤ at → get_or last i 0 ≡ get_or first i 0
  pub noted : (e k : ℕ) → r ≡ fit e k → (m : List ℕ) → Same at e last m → N m
