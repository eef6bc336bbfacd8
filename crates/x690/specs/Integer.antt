-- Two's complement integers as octets (X.690, 8.3; FORMATS, "Messages" and "Values").
-- Assumes nothing.
use Rattle.std.specs.Prelude.{Bool, true, false, not, ◌&&◌, ◌||◌, List, [], ◌∷◌, ℕ, ◌+◌, ◌-◌, ◌*◌, ◌/◌, ◌%◌, ltb, eqb, ℤ, pos, negsuc}
use Rattle.std.specs.Int.{w64}
use Rattle.std.proofs.Common.{of_z}
use Rattle.octets.specs.Answer.{if}

-- 8.3.3: the first bit is the sign
unfoldable pub negative : List ℕ → Bool
negative [] = false
negative (b ∷ s) = not (ltb b 128)

-- an octet of a number that is not negative, and the octet's complement in one that is
abbrev pub digit : Bool → ℕ → ℕ
digit false b = b
digit true b = 255 - b

-- the octets as one number, the most significant first, after what came before
unfoldable pub pile : Bool → ℕ → List ℕ → ℕ
pile neg acc [] = acc
pile neg acc (b ∷ s) = pile neg (acc * 256 + digit neg b) s

abbrev pub signed : Bool → ℕ → ℤ
signed false n = pos n
signed true n = negsuc n

-- 8.3.3: the integer that octets stand for. A negative one is -1 minus the number that the complement spells.
unfoldable pub integer_of : List ℕ → ℤ
integer_of s = signed (negative s) (pile (negative s) 0 s)

-- 8.3.2: the first octet only repeats the sign of the second
unfoldable pub spare : ℕ → ℕ → Bool
spare a b = (eqb a 0 && ltb b 128) || (eqb a 255 && not (ltb b 128))

-- 8.3.1, 8.3.2: one octet or more, and no fewer would do
unfoldable pub minimal : List ℕ → Bool
minimal [] = false
minimal (a ∷ []) = true
minimal (a ∷ b ∷ s) = not (spare a b)

-- the eight octets of 64 bits
unfoldable pub eight : ℕ → List ℕ
eight u =
    u / 72057594037927936
    ∷ u / 281474976710656 % 256
    ∷ u / 1099511627776 % 256
    ∷ u / 4294967296 % 256
    ∷ u / 16777216 % 256
    ∷ u / 65536 % 256
    ∷ u / 256 % 256
    ∷ u % 256
    ∷ []

-- the octets of an INTEGER node, for integers of 64 bits
abbrev pub eight_of : ℤ → List ℕ
eight_of z = eight (of_z w64 z)

-- without the octets in front that could be left out
unfoldable pub fewest : List ℕ → List ℕ
fewest [] = []
fewest (a ∷ s) = if (minimal (a ∷ s)) (a ∷ s) λ _. fewest s

-- 8.3.2: the contents of an INTEGER
abbrev pub fewest_of : ℤ → List ℕ
fewest_of z = fewest (eight_of z)
