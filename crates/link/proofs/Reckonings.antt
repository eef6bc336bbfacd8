-- What call control in C is told of a reckoning with times: the returned number tells that reckoning's outcome, and no other. r is what the
-- function returns; the premise on it is the function's contract.
-- Assumes nothing.
use mathlib.Core.List.{List, [], ◌∷◌}
use mathlib.Core.Logic.{◌↔◌, ◌⊎◌, inl, inr}
use mathlib.Core.Bool.{true}
use mathlib.Core.Path.{◌≡◌, refl, sym, ap, subst, ◌∙◌}
use Prim.Native.Nat.{ℕ, ◌<◌, ◌^◌}
use native.Mathlib.Omega.{arith}
use lib.Dec.{ltb}
use lib.IntN.{ℤ, pos, negsuc, nat_abs}
use Rattle.std.specs.Prelude.{Ok, Err}
use Rattle.octets.specs.Numbers.{Octets}
use Rattle.octets.proofs.Permutations.{all_octets}
use Rattle.octets.proofs.Tests.{test}
use Rattle.dates.specs.declared.DateTime.{DateTime}
use Rattle.dates.specs.declared.TimeKind.TheVariants.{Generalized}
use Rattle.dates.specs.Calendar.{in_range}
use Rattle.dates.specs.Seconds.{ordered, order, elapsed}
use Rattle.dates.proofs.Theorems.{seconds_fit}
use Rattle.coding.specs.declared.Refusal.{Refusal}
use Rattle.coding.specs.declared.Refusal.TheVariants.{Value}
use Rattle.coding.specs.declared.JudgingCause.TheVariants.{ValueShape, IllTyped}
use Rattle.coding.specs.Outcome.{value_cause}
use Rattle.coding.specs.Reckoning.{Reckoned, given, reckoned_by, whole_order, whole_seconds}
use Rattle.coding.proofs.Reckoning.{reckons_exactly, reckoning_refuses}
use Rattle.link.specs.Pack.{packed_reckoning, Below, TellsReckoning, a_result, a_refusal}
use Rattle.coding.proofs.Causes.{same_refusal}

-- a number tells one outcome at most
pub tells_one_reckoning : {u : ℤ} {a b : Reckoned} → TellsReckoning u a → TellsReckoning u b → a ≡ b
tells_one_reckoning (a_result h) (a_result k) = refl
tells_one_reckoning (a_result h) (a_refusal l n p) = absurd (omega arith)
tells_one_reckoning (a_refusal l n p) (a_result h) = absurd (omega arith)
tells_one_reckoning (a_refusal {r = r} l n p) (a_refusal {r = q} k m o) = ap Err (same_refusal r q (sym n ∙ m) (p ∙ sym o))

-- no result reaches 2 ^ 40
order_below : (xs ys : List ℕ) → Below (ordered xs ys)
unfolding ordered
order_below [] ys = omega arith
order_below (x ∷ xs) [] = omega arith
order_below (x ∷ xs) (y ∷ ys) = test (ltb x y) (λ e. rw e tt) λ e. test (ltb y x) (λ f. rw (e, f) (omega arith)) λ f. rw (e, f) (order_below xs ys)

seconds_below : (z : ℤ) → nat_abs z < 2 ^ 39 → Below z
seconds_below (pos n) h = omega arith
seconds_below (negsuc n) h = tt

refusal_told : (r : Refusal) → (r ≡ Value (value_cause ValueShape 0)) ⊎ (r ≡ Value (value_cause IllTyped 0)) → TellsReckoning (packed_reckoning (Err r)) (Err r)
refusal_told r (inl e) = rw e (a_refusal {n = 12094627905536} {r = Value (value_cause ValueShape 0)} (omega arith) refl refl)
refusal_told r (inr e) = rw e (a_refusal {n = 13194139533312} {r = Value (value_cause IllTyped 0)} (omega arith) refl refl)

module _ (f : DateTime → DateTime → ℤ) (small : (a b : DateTime) → in_range Generalized a ≡ true → in_range Generalized b ≡ true → Below (f a b))
    (s t : List ℕ) (o : Octets s) (p : Octets t) where
  told : (a : Reckoned) → reckoned_by f (given Generalized s) (given Generalized t) ≡ a → TellsReckoning (packed_reckoning a) a
  told (Ok z) e =
      let r = (reckons_exactly f s t (all_octets s o) (all_octets t p) z).0 e in
      a_result (subst Below r.is (small r.first r.second r.a_time.ranged r.another.ranged))
  told (Err r) e = refusal_told r (reckoning_refuses f s t r e)

  tells_exactly : (r : ℤ) → r ≡ packed_reckoning (reckoned_by f (given Generalized s) (given Generalized t)) → (a : Reckoned) → TellsReckoning r a ↔ (a ≡ reckoned_by f (given Generalized s) (given Generalized t))
  tells_exactly r e a =
      let y : TellsReckoning r (reckoned_by f (given Generalized s) (given Generalized t)) = rw e (told (reckoned_by f (given Generalized s) (given Generalized t)) refl) in
      (λ z. tells_one_reckoning z y, λ q. rw q y)

times_below : (a b : DateTime) → Below (order a b)
unfolding order
times_below a b = order_below _ _

module _ (s t : List ℕ) (o : Octets s) (p : Octets t) (r : ℤ) where
  pub link_orders : r ≡ packed_reckoning (whole_order s t) → (a : Reckoned) → TellsReckoning r a ↔ (a ≡ whole_order s t)
  link_orders = tells_exactly order (λ a b e h. times_below a b) s t o p r

  pub link_reckons : r ≡ packed_reckoning (whole_seconds s t) → (a : Reckoned) → TellsReckoning r a ↔ (a ≡ whole_seconds s t)
  link_reckons = tells_exactly elapsed (λ a b e h. seconds_below (elapsed a b) (seconds_fit a b e h)) s t o p r
