-- Differences of two numbers as integers: they add up, turn round, and are no greater than the numbers.
-- Assumes nothing.
use mathlib.Core.Path.{◌≡◌, refl, sym, ap, ◌∙◌}
use native.Mathlib.Omega.{arith}
use Prim.Native.Nat.{ℕ, zero, suc, ◌≤◌, ◌<◌}
use lib.Dec.{ltb}
use lib.IntN.{ℤ, pos, negsuc, neg_ℤ, nat_abs, ◌+ℤ◌, ◌-ℤ◌, +ℤ_assoc, +ℤ_comm, +ℤ_invl, +ℤ_idl, neg_ℤ-+ℤ, neg_ℤ-neg_ℤ}
use lib.Signed.{mag}
use mir.Syntax.{w64}
use mir.Val.{SFits, to_z, of_z}
use mir.ValLaws.{to_z_pos, to_z-of_z}
use borrow.Author.Tests.{ltb-true, ltb-false}
use Rattle.octets.proofs.Tests.{test}

module _ (x y : ℤ) where
  -- back from y to x
  pub turned : y -ℤ x ≡ neg_ℤ (x -ℤ y)
  turned = sym (neg_ℤ-+ℤ x (neg_ℤ y) ∙ ap (λ (z : ℤ). neg_ℤ x +ℤ z) (neg_ℤ-neg_ℤ y) ∙ +ℤ_comm (neg_ℤ x) y)

  -- from z over y to x
  pub added : (z : ℤ) → (y -ℤ z) +ℤ (x -ℤ y) ≡ x -ℤ z
  added z =
      +ℤ_comm (y -ℤ z) (x -ℤ y) ∙ +ℤ_assoc x (neg_ℤ y) (y -ℤ z)
      ∙ ap (λ (w : ℤ). x +ℤ w) (sym (+ℤ_assoc (neg_ℤ y) y (neg_ℤ z)) ∙ ap (λ (w : ℤ). w +ℤ neg_ℤ z) (+ℤ_invl y) ∙ +ℤ_idl (neg_ℤ z))

mag_most : (z : ℤ) → mag z ≤ nat_abs z
mag_most (pos n) = omega arith
mag_most (negsuc n) = omega arith

pub difference_below : (m n : ℕ) {k : ℕ} → m < k → n < k → nat_abs (pos m -ℤ pos n) < k
difference_below m zero h g = omega arith
difference_below m (suc n) h g =
    test (ltb m (suc n)) (λ e. rw e (omega (arith, ltb-true m (suc n) e))) λ e.
    rw e (omega (arith, ltb-false m (suc n) e))

-- two numbers of 41 bits, as the code subtracts them
module _ (m n : ℕ) (h : m < 2199023255552) (g : n < 2199023255552) where
  same : to_z w64 m -ℤ to_z w64 n ≡ pos m -ℤ pos n
  same = rw (to_z_pos w64 m (omega arith), to_z_pos w64 n (omega arith)) refl

  pub difference_fits : SFits w64 (to_z w64 m -ℤ to_z w64 n)
  difference_fits = rw same (record { sfits = omega (arith, mag_most (pos m -ℤ pos n), difference_below m n h g) })

  pub difference : to_z w64 (of_z w64 (to_z w64 m -ℤ to_z w64 n)) ≡ pos m -ℤ pos n
  difference = to_z-of_z w64 (to_z w64 m -ℤ to_z w64 n) difference_fits ∙ same
