-- Contents of a BIT STRING: the number of unused bits, then the octets of the bits (X.690, 8.6; FORMATS, "Messages").
-- Assumes nothing.
use Rattle.std.specs.Prelude.{Bool, List, [], ◌∷◌, ℕ, ◌*◌, ◌/◌, ◌^◌, ltb, eqb}

-- 8.6.2.2, 8.6.2.3: zero to seven bits are unused, none if there is no bit
unfoldable pub unused : ℕ → List ℕ → Bool
unused n [] = eqb n 0
unused n (x ∷ c) = ltb n 8

-- the last n bits cleared: a sender may set unused bits as it likes, a reader takes them as 0
unfoldable pub masked : ℕ → List ℕ → List ℕ
masked n [] = []
masked n (x ∷ []) = x / 2 ^ n * 2 ^ n ∷ []
masked n (x ∷ y ∷ c) = x ∷ masked n (y ∷ c)
