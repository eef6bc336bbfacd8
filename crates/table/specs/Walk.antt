-- The walk that gathers first tags (FORMATS, "Tables"), for laws and for the contracts of the check: no definition of the verdict rests on this file.
-- Records with one outermost tag are one node, which the lowest of them stands for; a CHOICE without tags is a node of its own.
-- Assumes nothing.
use Rattle.std.specs.Prelude.{Bool, true, false, ◌≡◌, ℕ, zero, suc, ◌+◌, ◌<◌, length, get_or, set}
use mathlib.Core.List.{List, [], ◌∷◌, Memᴰ as In}
use Rattle.octets.specs.Lists.{lowest}
use Rattle.table.specs.Syntax.{Tag, Table}
use Rattle.table.specs.Octets.{record_shaped}
use Rattle.table.specs.Rules.{below, Dangling, Mistagged}
use Rattle.table.specs.Decide.{begins}
use Rattle.table.specs.Passes.{Nested}

unfoldable pub same_outermost : List Tag → List Tag → Bool
same_outermost [] hs = false
same_outermost (g ∷ gs) hs = begins g hs

-- the lowest record with the outermost tag of record t; t itself, if that has no tags
unfoldable pub like : Table → ℕ → ℕ
like T t = lowest (λ u. same_outermost (T u).tags (T t).tags) t

-- what the verdict has found before it judges circles
pub record Named (T : Table) (n : ℕ) : Type 0 where
  pub shaped : (t : ℕ) → t < n → record_shaped (T t) ≡ true
  pub there : (t : ℕ) → t < n → Dangling T n t → ⊥
  pub tagged : (t : ℕ) → t < n → Mistagged (T t) → ⊥

-- and before it judges shared tags
pub record Straight (T : Table) (n : ℕ) : Type 0 where
  pub named : Named T n
  pub ends : (t : ℕ) → t < n → Nested T n t

abbrev pub fresh : ℕ → ℕ
fresh zero = 1
fresh (suc n) = 0

-- how many records have no mark yet
unfoldable pub free : List ℕ → ℕ
free [] = 0
free (x ∷ xs) = fresh x + free xs

-- q stands for a record that is reached from k through CHOICEs without tags
pub data Hits (T : Table) (q : ℕ) : ℕ → Type 0 where
  at : {k : ℕ} → q ≡ like T k → Hits T q k
  under : {k : ℕ} (a : ℕ) → In a (below T k) → Hits T q a → Hits T q k

-- from the marks v, a walk from the records ks in turn leaves the marks w
pub data Walks (T : Table) (m : ℕ) : List ℕ → List ℕ → List ℕ → Type 0 where
  done : {v : List ℕ} → Walks T m v [] v
  seen : {v w ks : List ℕ} {k : ℕ} → get_or v (like T k) 0 ≡ m → Walks T m v ks w → Walks T m v (k ∷ ks) w
  down : {v u w ks : List ℕ} {k : ℕ} → like T k < length v → get_or v (like T k) 0 ≡ 0
      → Walks T m (set v (like T k) m) (below T k) u → Walks T m u ks w → Walks T m v (k ∷ ks) w
