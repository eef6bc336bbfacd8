-- Length octets (X.690, 8.1.3; FORMATS, "Messages").
-- Assumes nothing.
use Rattle.std.specs.Prelude.{List, [], ◌∷◌, ◌≡◌, ℕ, zero, suc, ◌+◌, ◌*◌, ◌/◌, ◌%◌, ◌≤◌, ◌<◌, ltb, eqb, length}
use Rattle.octets.specs.Answer.{if}

-- octets as a number, the most significant first, after the digits that were read
unfoldable pub unsigned : ℕ → List ℕ → ℕ
unsigned n [] = n
unsigned n (d ∷ ds) = unsigned (n * 256 + d) ds

-- FORMATS, "Messages" (8.1.3): at most four octets stand after the first one
abbrev pub longest_field : ℕ
longest_field = 4

-- 8.1.3.4, 8.1.3.5: m is a definite form of the length n; in the long form zeros may stand in front
pub data Length (n : ℕ) (m : List ℕ) : Type 0 where
  short : n < 128 → m ≡ n ∷ [] → Length n m
  long : (ds : List ℕ) → 1 ≤ length ds → length ds ≤ longest_field → unsigned 0 ds ≡ n → m ≡ (128 + length ds) ∷ ds → Length n m

-- the digits of n to the base 256, at most k, before those in hand
unfoldable pub digits : ℕ → ℕ → List ℕ → List ℕ
digits zero n l = l
digits (suc k) n l = if (eqb n 0) l λ _. digits k (n / 256) (n % 256 ∷ l)

-- the shortest definite form, which the writer sends
unfoldable pub length_octets : ℕ → List ℕ
length_octets n = if (ltb n 128) (n ∷ []) λ _. (128 + length (digits 8 n [])) ∷ digits 8 n []
