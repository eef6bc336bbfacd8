-- By cases on a test, and what a test of two tests says of each. The kit's `borrow.Author.Tests` has the negated test.
-- Assumes nothing.
use borrow.Author.Tests.{eqb-true}
use mathlib.Core.Bool.{Bool, true, false, ◌&&◌, ◌||◌, true≢false, false≢true}
use mathlib.Core.Path.{◌≡◌, refl, sym, subst}
use Prim.Native.Nat.{ℕ}
use lib.Dec.{eqb}

-- by cases on a test, with its equation
pub test : {X : Type 0} (t : Bool) → (t ≡ true → X) → (t ≡ false → X) → X
test true f g = f refl
test false f g = g refl

-- by cases on a number: what holds of i holds of k, if it does wherever k is another
pub at : (k i : ℕ) (P : ℕ → Type 0) → P i → (eqb k i ≡ false → P k) → P k
at k i P x f = test (eqb k i) (λ e. subst P (sym (eqb-true k i e)) x) f

pub and_left : (a b : Bool) → (a && b) ≡ true → a ≡ true
and_left true b e = refl
and_left false b e = e

pub and_right : (a b : Bool) → (a && b) ≡ true → b ≡ true
and_right true b e = e
and_right false b e = absurd (false≢true e)

pub or_by : {C : Type 0} (a b : Bool) → (a || b) ≡ true → (a ≡ true → C) → (b ≡ true → C) → C
or_by true b e h k = h refl
or_by false b e h k = k e

pub or_false : (a b : Bool) → (a || b) ≡ false → (a ≡ false) × (b ≡ false)
or_false true b e = absurd (true≢false e)
or_false false b e = (refl, e)
