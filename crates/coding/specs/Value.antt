-- Values: trees by kind, their octets, their levels (FORMATS, "Values" and "Octets and levels").
-- Assumes nothing.
use Rattle.std.specs.Prelude.{Bool, true, false, List, [], ◌∷◌, ◌++◌, ℕ, suc, ◌-◌, ◌*◌, max, ℤ, length}
use Rattle.std.proofs.Math.Option.{Option, some, none}
use Rattle.octets.specs.Numbers.{octets_of}
use Rattle.x690.specs.Integer.{eight_of}
use Rattle.dates.specs.declared.TimeKind.{TimeKind}
use Rattle.dates.specs.declared.DateTime.{DateTime}
use Rattle.dates.specs.declared.TimeKind.TheVariants.{Utc, Generalized}
use Rattle.dates.specs.Own.{time_octets}

-- values with no value below; bits are the number of unused ones and the octets that hold them
pub data Leaf : Type 0 where
  boolean : Bool → Leaf
  integer : ℤ → Leaf
  bits : ℕ → List ℕ → Leaf
  string : List ℕ → Leaf
  null : Leaf
  enumerated : ℕ → Leaf
  time : TimeKind → DateTime → Leaf

mutual
  pub data Value : Type 0 where
    leaf : Leaf → Value
    sequence : Slots → Value
    set : Slots → Value
    sequence_of : Slots → Value
    set_of : Slots → Value
    choice : ℕ → Value → Value

  -- members, present or missing; elements are all present
  pub data Slots : Type 0 where
    end : Slots
    missing : Slots → Slots
    present : Value → Slots → Slots

unfoldable pub slots : List (Option Value) → Slots
slots [] = end
slots (none ∷ os) = missing (slots os)
slots (some v ∷ os) = present v (slots os)

unfoldable pub bag : List Value → Slots
bag [] = end
bag (v ∷ vs) = present v (bag vs)

abbrev pub flag : Bool → ℕ
flag true = 1
flag false = 0

-- the kind of a time
abbrev pub time_number : TimeKind → ℕ
time_number Utc = 23
time_number Generalized = 24

-- how many bits
abbrev pub bit_count : ℕ → List ℕ → ℕ
bit_count n c = 8 * length c - n

-- the node of a leaf: the mark 56 41, the kind, and what the kind has: 00 or 01, eight octets, a count of bits or octets and then these, nothing,
-- a number of two octets, the year in two octets and five octets behind it
unfoldable pub leaf_octets : Leaf → List ℕ
leaf_octets (boolean b) = 0x56 ∷ 0x41 ∷ 1 ∷ flag b ∷ []
leaf_octets (integer z) = 0x56 ∷ 0x41 ∷ 2 ∷ eight_of z
leaf_octets (bits n c) = 0x56 ∷ 0x41 ∷ 3 ∷ (octets_of (bit_count n c) ++ c)
leaf_octets (string c) = 0x56 ∷ 0x41 ∷ 4 ∷ (octets_of (length c) ++ c)
leaf_octets null = 0x56 ∷ 0x41 ∷ 5 ∷ []
leaf_octets (enumerated k) = 0x56 ∷ 0x41 ∷ 10 ∷ octets_of k
leaf_octets (time k t) = 0x56 ∷ 0x41 ∷ time_number k ∷ time_octets t

-- how many there are, and which of them are present
unfoldable pub count : Slots → ℕ
count end = 0
count (missing s) = suc (count s)
count (present v s) = suc (count s)

unfoldable pub presence : Slots → List ℕ
presence end = []
presence (missing s) = 0 ∷ presence s
presence (present v s) = 1 ∷ presence s

-- a node with nodes below it: members have a count and a presence octet each, in the table's order, and those that are there follow;
-- elements have a count of two octets; a CHOICE has the number of its alternative
unfoldable mutual
  pub octets : Value → List ℕ
  octets (leaf x) = leaf_octets x
  octets (sequence s) = 0x56 ∷ 0x41 ∷ 16 ∷ count s ∷ (presence s ++ slot_octets s)
  octets (set s) = 0x56 ∷ 0x41 ∷ 17 ∷ count s ∷ (presence s ++ slot_octets s)
  octets (sequence_of s) = 0x56 ∷ 0x41 ∷ 48 ∷ (octets_of (count s) ++ slot_octets s)
  octets (set_of s) = 0x56 ∷ 0x41 ∷ 49 ∷ (octets_of (count s) ++ slot_octets s)
  octets (choice i v) = 0x56 ∷ 0x41 ∷ 50 ∷ i ∷ octets v

  pub slot_octets : Slots → List ℕ
  slot_octets end = []
  slot_octets (missing s) = slot_octets s
  slot_octets (present v s) = octets v ++ slot_octets s

-- how many levels: the root is one; a CHOICE is one, and its chosen value the next
unfoldable mutual
  pub depth : Value → ℕ
  depth (leaf x) = 1
  depth (sequence s) = suc (depths s)
  depth (set s) = suc (depths s)
  depth (sequence_of s) = suc (depths s)
  depth (set_of s) = suc (depths s)
  depth (choice i v) = suc (depth v)

  pub depths : Slots → ℕ
  depths end = 0
  depths (missing s) = depths s
  depths (present v s) = max (depth v) (depths s)
