-- Identifier octets (X.690, 8.1.2; FORMATS, "Messages").
-- Assumes nothing.
use Rattle.std.specs.Prelude.{Bool, true, false, List, [], ◌∷◌, ℕ, ◌+◌, ◌*◌, ◌/◌, ◌%◌, ltb}
use Rattle.octets.specs.Answer.{if}

-- 8.1.2.5: bit 6 is 1 in a constructed encoding
abbrev pub bit : Bool → ℕ
bit true = 1
bit false = 0

-- 8.1.2.2: bits 8 and 7 are the class, bit 6 says primitive or constructed, bits 5 to 1 are `low`
unfoldable pub leading : ℕ → Bool → ℕ → ℕ
leading class constructed low = class * 64 + bit constructed * 32 + low

-- 8.1.2.4.2: the number to the base 128 in its fewest octets, bit 8 set in all but the last; three are enough to 65,535
unfoldable pub following : ℕ → List ℕ
following n =
    if (ltb n 128) (n ∷ []) λ _.
    if (ltb n 16384) ((128 + n / 128) ∷ n % 128 ∷ []) λ _.
    (128 + n / 16384) ∷ (128 + n / 128 % 128) ∷ n % 128 ∷ []

-- a number up to 30 stands in the first octet; a larger one follows it, in the fewest octets
unfoldable pub identifier : ℕ → Bool → ℕ → List ℕ
identifier class constructed number =
    if (ltb number 31) (leading class constructed number ∷ []) λ _.
    leading class constructed 31 ∷ following number
