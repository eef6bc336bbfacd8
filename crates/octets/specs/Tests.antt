-- Choosing by a test.
-- Assumes nothing.
use Rattle.std.specs.Prelude.{Bool, true, false}

-- x where the test holds; else what follows, which waits until then
abbrev pub if : {A : Type 0} → Bool → A → (Unit {0} → A) → A
if true x k = x
if false x k = k tt
