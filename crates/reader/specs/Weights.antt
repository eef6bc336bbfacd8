-- How many octets the value of simple contents has (FORMATS, "Values"; X.690, 8.2 to 8.8).
-- Assumes nothing.
use Rattle.std.specs.Prelude.{◌&&◌, List, [], ℕ, length}
use Rattle.x690.specs.declared.ReadingCause.{ReadingCause}
use Rattle.octets.specs.Answer.{Answer, got, refused, if}
use Rattle.table.specs.Syntax.{Body, Plain, Sequence, Set, SequenceOf, SetOf, Choice}
use Rattle.coding.specs.Value.{Leaf, leaf_octets}
use Rattle.coding.specs.Reading.{decode}
use Rattle.reader.specs.Codes.{own_either}
use Rattle.reader.specs.Leaves.{is_in_segments}

-- the size of a leaf; 0 where contents are wrong
unfoldable pub weight : Answer ReadingCause Leaf → ℕ
weight (got x s) = length (leaf_octets x)
weight (refused c l) = 0

-- of a simple kind's contents c
unfoldable pub leaf_weight : Body → List ℕ → ℕ
leaf_weight (Plain k) c = weight (decode k 0 c [])
leaf_weight (Sequence ms) c = 0
leaf_weight (Set ms) c = 0
leaf_weight (SequenceOf t) c = 0
leaf_weight (SetOf t) c = 0
leaf_weight (Choice ts) c = 0

-- of those of an item that begins with the octet `lead`: segments have no size by themselves
unfoldable pub size_by : Body → ℕ → List ℕ → ℕ
size_by y lead c = if (own_either y && is_in_segments lead) 0 λ _. leaf_weight y c
