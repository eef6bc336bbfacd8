-- The trees that have octets: integers of 64 bits, spare bits 0, times in range, and counts that fit their fields (FORMATS, "Values").
-- Assumes nothing.
use Rattle.std.specs.Prelude.{true, ◌≡◌, ◌<◌, length}
use Rattle.std.specs.Int.{w64}
use Rattle.std.proofs.Common.{SFits}
use Rattle.octets.specs.Permutations.{AllOctets}
use Rattle.x690.specs.BitString.{unused, masked}
use Rattle.dates.specs.Calendar.{in_range}
use Rattle.coding.specs.Value.{Leaf, boolean, integer, bits, string, null, enumerated, time, Value, leaf, sequence, set, sequence_of, set_of, choice, Slots, end, missing, present, count, bit_count}

-- an ENUMERATED number, a count of octets and a count of bits have two octets each
unfoldable pub LeafShaped : Leaf → Type 0
LeafShaped (boolean b) = Unit {0}
LeafShaped (integer z) = SFits w64 z
LeafShaped (bits n c) = AllOctets c × (unused n c ≡ true) × (masked n c ≡ c) × (bit_count n c < 65536)
LeafShaped (string c) = AllOctets c × (length c < 65536)
LeafShaped null = Unit {0}
LeafShaped (enumerated k) = k < 65536
LeafShaped (time k t) = in_range k t ≡ true

-- the elements of a list are all there
unfoldable pub Whole : Slots → Type 0
Whole end = Unit {0}
Whole (missing s) = ⊥
Whole (present v s) = Whole s

unfoldable mutual
  pub Shaped : Value → Type 0
  Shaped (leaf x) = LeafShaped x
  Shaped (sequence s) = (count s < 256) × AllShaped s
  Shaped (set s) = (count s < 256) × AllShaped s
  Shaped (sequence_of s) = (count s < 65536) × Whole s × AllShaped s
  Shaped (set_of s) = (count s < 65536) × Whole s × AllShaped s
  Shaped (choice i v) = (i < 256) × Shaped v

  pub AllShaped : Slots → Type 0
  AllShaped end = Unit {0}
  AllShaped (missing s) = AllShaped s
  AllShaped (present v s) = Shaped v × AllShaped s
