-- What the measuring of a leaf tells.
-- Assumes nothing.
use Rattle.std.specs.Prelude.{List, ◌≡◌, ℕ, ◌<◌, length, Option, Some, None}
use Rattle.coding.specs.Form.{encode}
use Rattle.writer.specs.Nodes.{own_end, leaf_of}
use Rattle.writer.specs.declared.contents.Extent.{Extent}

-- where the own part at p of a leaf of kind k ends, and how many contents octets it has if it is shaped
pub record Measures (k : ℕ) (v : List ℕ) (p : ℕ) (r : Extent) : Type 0 where
  pub ends : r.end ≡ own_end k v p
  pub sized : 0 < own_end k v p → r.size ≡ length (encode (leaf_of k v p))
  pub small : r.size < 65536

-- the same where a leaf that is not shaped is told by None
abbrev pub MeasuresSome : ℕ → List ℕ → ℕ → Option Extent → Type 0
MeasuresSome k v p None = own_end k v p ≡ 0
MeasuresSome k v p (Some r) = Measures k v p r × (0 < p → 0 < own_end k v p)
