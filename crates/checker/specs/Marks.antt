-- The marking of records that have a finite value (FORMATS, "Tables"), for the contracts of the code alone: no definition of the verdict rests on this file.
-- Assumes nothing.
use Rattle.std.specs.Prelude.{Bool, true, false, not, List, ◌≡◌, ℕ, ◌<◌, eqb, get_or, set}
use Rattle.table.specs.Syntax.{Table}
use Rattle.table.specs.Decide.{finite_body}
use Rattle.table.specs.Walk.{free}

unfoldable pub is_flagged : List ℕ → ℕ → Bool
is_flagged v t = not (eqb (get_or v t 0) 0)

-- from the marks v, records that are found one after another are marked, to w
pub data Raised (T : Table) : List ℕ → List ℕ → Type 0 where
  same : {v : List ℕ} → Raised T v v
  one_more : {v w : List ℕ} (t : ℕ) → finite_body (is_flagged v) (T t).body ≡ true → Raised T (set v t 1) w → Raised T v w

-- each of the records below n that is found is marked
abbrev pub Closed : Table → ℕ → List ℕ → Type 0
Closed T n v = (t : ℕ) → t < n → finite_body (is_flagged v) (T t).body ≡ true → is_flagged v t ≡ true

-- the records below n that P picks were looked at: r if any was marked
pub record Looked (T : Table) (P : ℕ → Type 0) (v : List ℕ) (r : Bool) (w : List ℕ) : Type 0 where
  pub raised : Raised T v w
  pub idle : r ≡ false → w ≡ v
  pub none : r ≡ false → (t : ℕ) → P t → finite_body (is_flagged v) (T t).body ≡ true → is_flagged v t ≡ true
  pub fewer : r ≡ true → free w < free v
