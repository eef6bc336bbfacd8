-- Items: identifier octets, length octets, contents and, where the length is indefinite, an end (X.690, 8.1; FORMATS, "Messages").
-- Assumes nothing.
use Rattle.std.specs.Prelude.{List, [], ◌∷◌, ◌++◌, ◌≡◌, ℕ, length}
use Rattle.x690.specs.Length.{Length, length_octets}

-- 8.1.3.3: m is a definite item with the identifier octets i and the contents c. A primitive one is always so.
pub data Definite (i c m : List ℕ) : Type 0 where
  sized : (ls : List ℕ) → Length (length c) ls → m ≡ i ++ (ls ++ c) → Definite i c m

-- 8.1.3.2, 8.1.5: a constructed item may have the indefinite form, closed by 00 00
pub data Constructed (i c m : List ℕ) : Type 0 where
  in_size : Definite i c m → Constructed i c m
  in_marks : m ≡ i ++ (128 ∷ (c ++ (0 ∷ 0 ∷ []))) → Constructed i c m

-- the writer's item
unfoldable pub item : List ℕ → List ℕ → List ℕ
item i c = i ++ (length_octets (length c) ++ c)
