-- Numbers of two octets, the high octet first.
-- Assumes nothing.
use Rattle.std.specs.Prelude.{List, [], ◌∷◌, ℕ, ◌+◌, ◌*◌, ◌/◌, ◌%◌, ◌<◌, eqb, ltb, get_or, Option, Some, None}
use Rattle.octets.specs.Tests.{if}

-- what is lent as octets
abbrev pub Octets : List ℕ → Type 0
Octets s = (i : ℕ) → get_or s i 0 < 256

-- the number whose octets stand at a place
abbrev pub two : List ℕ → ℕ → ℕ
two s at = get_or s at 0 * 256 + get_or s (at + 1) 0

-- the octets of a number below 65,536
abbrev pub octets_of : ℕ → List ℕ
octets_of n = n / 256 ∷ n % 256 ∷ []

-- a number where 0 says that there is none
abbrev pub unless_zero : ℕ → Option ℕ
unless_zero n = if (eqb n 0) None λ _. Some n

-- a number where all from n on say that there is none
abbrev pub if_below : ℕ → ℕ → Option ℕ
if_below n k = if (ltb k n) (Some k) λ _. None
