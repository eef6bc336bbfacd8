-- What the functions that gather first tags need and find (FORMATS, "Tables"), for their contracts alone: no definition of the verdict rests on this file.
-- Assumes nothing.
use Rattle.std.specs.Prelude.{Bool, true, false, ◌≡◌, ℕ, ◌+◌, ◌-◌, ◌*◌, ◌/◌, ◌%◌, ◌≤◌, ◌<◌, eqb, get_or}
use mathlib.Core.List.{List, [], ◌∷◌, Memᴰ as In}
use Rattle.octets.specs.Tests.{if}
use Rattle.octets.specs.Lists.{lowest}
use Rattle.table.specs.Syntax.{Table}
use Rattle.table.specs.Reading.{every_at, table_in, count_in}
use Rattle.table.specs.Rules.{below}
use Rattle.table.specs.Walk.{like, Straight, free, Hits, Walks}
use Rattle.records.specs.Entries.{unpacked, untagged}
use Rattle.records.specs.declared.entry.Span.{Span}

-- the first tag of a code: all but the bit that says constructed
abbrev pub tag_of : ℕ → ℕ
tag_of c = c - c / 32 % 2 * 32

-- `like` by the index
unfoldable pub like_in : List ℕ → ℕ → ℕ
like_in index t =
    if (eqb (tag_of (unpacked (get_or index t 0)).code) untagged) t λ _.
    lowest (λ u. eqb (tag_of (unpacked (get_or index u 0)).code) (tag_of (unpacked (get_or index t 0)).code)) t

-- every alternative is there, and `nodes` has what stands for each record
pub record StandIns (T : Table) (n : ℕ) (nodes : List ℕ) : Type 0 where
  pub closed : (t a : ℕ) → t < n → In a (below T t) → a < n
  pub right : (t : ℕ) → t < n → get_or nodes t 0 ≡ like T t

-- another mark than m was on a node that is hit from k
pub record Met (T : Table) (m : ℕ) (v : List ℕ) (k : ℕ) : Type 0 where
  pub node : ℕ
  pub hit : Hits T node k
  pub some : get_or v node 0 ≡ 0 → ⊥
  pub other : get_or v node 0 ≡ m → ⊥

pub record Gathered (T : Table) (m : ℕ) (v : List ℕ) (k : ℕ) (r : Bool) (w : List ℕ) : Type 0 where
  pub met : r ≡ true → Met T m v k
  pub walked : r ≡ false → Walks T m v (k ∷ []) w
  pub fewer : free w ≤ free v

-- the same of a walk from the alternatives of a CHOICE without tags k
pub record GatheredUnder (T : Table) (m : ℕ) (v : List ℕ) (k : ℕ) (r : Bool) (w : List ℕ) : Type 0 where
  pub met : r ≡ true → (a : ℕ) × In a (below T k) × Met T m v a
  pub walked : r ≡ false → Walks T m v (below T k) w
  pub fewer : free w ≤ free v

-- what comparing the parts of a span needs: that every part is there
pub record Compares (b : List ℕ) (s : Span) : Type 0 where
  pub straight : Straight (table_in b) (count_in b)
  pub there : (a : ℕ) → In a (every_at s.step b s.first s.count) → a < count_in b
  pub few : s.count ≤ 16
  pub near : s.first + 3 * s.count ≤ 100000
  pub close : s.step < 3

-- of the members from p on, the k-th is optional
abbrev pub optional_in : List ℕ → ℕ → ℕ → Bool
optional_in b p k = eqb (get_or b (p + 2 * k + 1) 0) 1
