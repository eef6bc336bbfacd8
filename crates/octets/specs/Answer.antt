-- What a reader of octets answers, and the combinators that readers are built from.
-- Assumes nothing.
use Rattle.std.specs.Prelude.{Bool, true, false, List, [], ◌∷◌, ℕ, ◌+◌}

-- What was read, and what follows it. Or a refusal: its cause, one of the causes K of that reading, and how many octets are left from its
-- place to the end of what was given.
pub data Answer (K A : Type 0) : Type 0 where
  got : A → List ℕ → Answer K A
  refused : K → ℕ → Answer K A

unfoldable pub then : {K A B : Type 0} → Answer K A → (A → List ℕ → Answer K B) → Answer K B
then (got a s) f = f a s
then (refused c l) f = refused c l

-- x where the test holds; else what follows
unfoldable pub if : {A : Type 0} → Bool → A → (Unit {0} → A) → A
if true a k = a
if false a k = k tt

-- an answer about a part, where k octets stand behind the part
unfoldable pub behind : {K A : Type 0} → ℕ → Answer K A → Answer K A
behind k (got a s) = got a s
behind k (refused c l) = refused c (l + k)

-- no octet is left
unfoldable pub none_left : List ℕ → Bool
none_left [] = true
none_left (b ∷ s) = false
