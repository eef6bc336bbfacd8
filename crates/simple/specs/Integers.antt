-- Integers as code has them, of at most eight octets (X.690, 8.3).
-- Assumes nothing.
use Rattle.std.specs.Prelude.{List, [], ◌∷◌, ℕ, zero, suc, ◌/◌, ◌%◌, leb, ℤ, pos, length}
use Rattle.octets.specs.Answer.{if}
use Rattle.x690.specs.Integer.{integer_of}

-- the integer of at most eight octets; 0 for more
abbrev pub integer_in : List ℕ → ℤ
integer_in c = if (leb (length c) 8) (integer_of c) λ _. pos 0

-- the last n octets of a number to the base 256, after which those in hand stand
unfoldable pub last_before : ℕ → ℕ → List ℕ → List ℕ
last_before zero u l = l
last_before (suc n) u l = last_before n (u / 256) (u % 256 ∷ l)

abbrev pub last_octets : ℕ → ℕ → List ℕ
last_octets n u = last_before n u []
