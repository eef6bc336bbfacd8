-- What holds of a table that passes: all that the crates above rely on (FORMATS, "Tables" and "Limits").
-- Assumes nothing.
use Rattle.std.specs.Prelude.{true, ◌≡◌, ℕ, zero, suc, ◌≤◌, ◌<◌, length}
use mathlib.Core.List.{List, [], Memᴰ as In}
use Rattle.table.specs.Syntax.{Tag, Plain, Enumerated, Table, absent}
use Rattle.table.specs.Octets.{record_shaped}
use Rattle.table.specs.Rules.{Dangling, Mistagged, Sharing, Finite, below}

-- the CHOICEs without tags under t are nested at most k deep
unfoldable pub Nested : Table → ℕ → ℕ → Type 0
Nested T zero t = below T t ≡ []
Nested T (suc k) t = (a : ℕ) → In a (below T t) → Nested T k a

-- of the octets b of a table that passes, read as the n records T
pub record Passes (b : List ℕ) (T : Table) (n : ℕ) : Type 0 where
  pub some : 1 ≤ n
  pub few : n ≤ 128
  pub short : length b ≤ 8192
  pub shaped : (t : ℕ) → t < n → record_shaped (T t) ≡ true
  pub there : (t : ℕ) → t < n → Dangling T n t → ⊥
  pub tagged : (t : ℕ) → t < n → Mistagged (T t) → ⊥
  pub ends : (t : ℕ) → t < n → Nested T n t
  pub distinct : (t : ℕ) → t < n → Sharing T t → ⊥
  pub finite : (t : ℕ) → t < n → Finite T t
  pub tag_numbers : (t : ℕ) → t < n → (g : Tag) → In g (T t).tags → g.number < 65536
  pub listed_numbers : (t : ℕ) → t < n → (ns : List ℕ) → (T t).body ≡ Plain (Enumerated ns) → (k : ℕ) → In k ns → k < 65536
  pub no_more : (t : ℕ) → n ≤ t → T t ≡ absent
