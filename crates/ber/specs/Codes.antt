-- Identifier octets as one number, by which they are compared: the leading octet and, in the long form, 256 for each unit of the tag number
-- (X.690, 8.1.2).
-- Assumes nothing.
use Rattle.std.specs.Prelude.{Bool, List, [], ◌∷◌, ℕ, ◌+◌, ◌*◌, ◌/◌, ◌%◌, min, ltb}
use Rattle.octets.specs.Answer.{if}
use Rattle.x690.specs.Identifier.{leading}

-- of a tag
unfoldable pub code : ℕ → Bool → ℕ → ℕ
code class constructed number =
    if (ltb number 31) (leading class constructed number) λ _.
    leading class constructed 31 + 256 * number

-- the number that following octets spell; all above 65,535 are one
unfoldable pub spelled : ℕ → List ℕ → ℕ
spelled n [] = n
spelled n (d ∷ ds) = spelled (min 65536 (n * 128 + d % 128)) ds

-- of identifier octets
unfoldable pub code_of : List ℕ → ℕ
code_of [] = 0
code_of (b ∷ []) = b
code_of (b ∷ d ∷ ds) = b + 256 * spelled 0 (d ∷ ds)

-- the identifier octets of a code
unfoldable pub code_octets : ℕ → List ℕ
code_octets c =
    if (ltb c 256) (c ∷ []) λ _.
    if (ltb c 32768) (c % 256 ∷ c / 256 ∷ []) λ _.
    if (ltb c 4194304) (c % 256 ∷ (128 + c / 32768) ∷ c / 256 % 128 ∷ []) λ _.
    c % 256 ∷ (128 + c / 4194304 % 128) ∷ (128 + c / 32768 % 128) ∷ c / 256 % 128 ∷ []
