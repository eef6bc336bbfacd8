-- What a chain over places or over record numbers answers, as the definitions say it.
-- Assumes nothing.
use mathlib.Core.Bool.{Bool, true, false, ◌&&◌, ◌||◌, true≢false}
use mathlib.Core.List.{List}
use mathlib.Core.Path.{◌≡◌, refl, sym, ap, ◌∙◌}
use Prim.Native.Nat.{ℕ, zero, suc, ◌+◌, ◌*◌, ◌≤◌, ◌<◌}
use native.Mathlib.Nat.{one-mul}
use native.Mathlib.Omega.{arith}
use borrow.Author.Tests.{lt-ltb, le-ltb, ltb-true, ltb-false, eqb-true, eqb-false}
use lib.Dec.{eqb, ltb}
use lib.ListN.{get_or}
use denote.Param.Members.{Mut}
use denote.Ref.{Bor}
use Rattle.std.specs.Prelude.{Option, Some, None, MatchOption, unwrap_or}
use Rattle.std.specs.declared.ops.Range.{Range}
use Rattle.std.specs.Bool.{⊤}
use Rattle.std.specs.Fn.{CalledAt}
use Rattle.std.specs.Iterator.{YieldsThen}
use Rattle.std.specs.List.{FoldsTo, range_with_len, list_any, list_all}
use Rattle.std.proofs.iter.Yields.{nat_range_steps}
use Rattle.std.proofs.lemmas.Iterator.{first_from_Range}
use Rattle.octets.specs.Lists.{any, all, lowest}
use Rattle.octets.proofs.Search.{lowest_most, lowest_passes, before_lowest}
use Rattle.octets.specs.Numbers.{unless_zero, if_below}
use Rattle.octets.proofs.Tests.{test}
use Rattle.table.specs.Reading.{members_at, every_at}

-- n octets, the first at p, each `step` behind the one before
module _ (f : ℕ → Bool) (step : ℕ) (b : List ℕ) (p : ℕ) where
  any_from : (i n : ℕ) → list_any (λ k. f (get_or b (p + step * k) 0)) (range_with_len i n) ≡ any f (every_at step b (p + step * i) n)
  unfolding any every_at
  any_from i zero = refl
  any_from i (suc n) =
      let q : p + step * i + step ≡ p + step * (i + 1) = omega arith in
      rw q (ap (λ t. f (get_or b (p + step * i) 0) || t) (any_from (i + 1) n))

  all_from : (i n : ℕ) → list_all (λ k. f (get_or b (p + step * k) 0)) (range_with_len i n) ≡ all f (every_at step b (p + step * i) n)
  unfolding all every_at
  all_from i zero = refl
  all_from i (suc n) =
      let q : p + step * i + step ≡ p + step * (i + 1) = omega arith in
      rw q (ap (λ t. f (get_or b (p + step * i) 0) && t) (all_from (i + 1) n))

  pub any_places : (n : ℕ) → list_any (λ k. f (get_or b (p + step * k) 0)) (range_with_len 0 n) ≡ any f (every_at step b p n)
  any_places n = let q : p + step * 0 ≡ p = omega arith in any_from 0 n ∙ rw q

  pub all_places : (n : ℕ) → list_all (λ k. f (get_or b (p + step * k) 0)) (range_with_len 0 n) ≡ all f (every_at step b p n)
  all_places n = let q : p + step * 0 ≡ p = omega arith in all_from 0 n ∙ rw q

-- the members from p on
module _ (m : ℕ → Bool) (b : List ℕ) (p : ℕ) where
  members_from : (i n : ℕ) → list_all (λ k. eqb (get_or b (p + 2 * k + 1) 0) 1 || m (get_or b (p + 2 * k) 0)) (range_with_len i n)
      ≡ all (λ x. x.optional || m x.type) (members_at b (p + 2 * i) n)
  unfolding all members_at
  members_from i zero = refl
  members_from i (suc n) =
      let q : p + 2 * i + 2 ≡ p + 2 * (i + 1) = omega arith in
      rw q (ap (λ t. (eqb (get_or b (p + 2 * i + 1) 0) 1 || m (get_or b (p + 2 * i) 0)) && t) (members_from (i + 1) n))

  pub all_members : (n : ℕ) → list_all (λ k. eqb (get_or b (p + 2 * k + 1) 0) 1 || m (get_or b (p + 2 * k) 0)) (range_with_len 0 n)
      ≡ all (λ x. x.optional || m x.type) (members_at b p n)
  all_members n = let q : p + 2 * 0 ≡ p = omega arith in members_from 0 n ∙ rw q

-- no number below n passes
lowest_none : (f : ℕ → Bool) (n : ℕ) → ((k : ℕ) → k < n → f k ≡ false) → n ≤ lowest f n
lowest_none f n h =
    test (ltb (lowest f n) n)
    (λ e. let l = ltb-true (lowest f n) n e in absurd (true≢false (sym (lowest_passes f n l) ∙ h (lowest f n) l)))
    λ e. ltb-false (lowest f n) n e

-- i does, and none below it
lowest_some : (f : ℕ → Bool) (n i : ℕ) → i < n → f i ≡ true → ((k : ℕ) → k < i → f k ≡ false) → lowest f n ≡ i
lowest_some f n i l e h =
    test (ltb i (lowest f n))
    (λ t. absurd (true≢false (sym e ∙ before_lowest f n i (ltb-true i (lowest f n) t)))) λ t.
    test (ltb (lowest f n) i)
    (λ u. let m = ltb-true (lowest f n) i u in absurd (true≢false (sym (lowest_passes f n (omega arith)) ∙ h (lowest f n) m)))
    λ u. omega (arith, ltb-false i (lowest f n) t, ltb-false (lowest f n) i u)

-- the first of the numbers below n that passes is the lowest
first_lowest : (f : ℕ → Bool) (n : ℕ) {r : Option ℕ}
    → MatchOption r ((k : ℕ) → 0 ≤ k → k < n → k < n → false ≡ f k) (λ i. (0 ≤ i) × (i < n) × (i < n → true ≡ f i) × ((k : ℕ) → 0 ≤ k → k < i → k < n → false ≡ f k))
    → r ≡ if_below n (lowest f n)
first_lowest f n {r = None} h = rw (le-ltb (lowest f n) n (lowest_none f n (λ k l. sym (h k (omega arith) l l))))
first_lowest f n {r = Some i} (_, l, e, h) =
    let q : lowest f n ≡ i = lowest_some f n i l (sym (e l)) (λ k j. sym (h k (omega arith) j (omega arith))) in
    rw (q, lt-ltb i n l)

-- so says `find` over those numbers, where each call computes f
pub lowest_over : {F : Type 0} {g : Mut F (Bor ℕ × Unit {0}) Bool} (f : ℕ → Bool) (n : ℕ) (u : Range ℕ) {j : F} {r : Option ℕ}
    → (xs : List ℕ) × (i : F) × YieldsThen nat_range_steps (record { start = 0; end = n }) xs r u × FoldsTo (λ p x q. CalledAt g p x false q) j xs i
    × MatchOption r ⊤ (λ x. (h : F) × CalledAt g i x true h)
    → ((k : ℕ) (o : Bool) (q : F) → CalledAt g j k o q → (q ≡ j) × (k < n → o ≡ f k)) → r ≡ if_below n (lowest f n)
lowest_over f n u {j} {r} ran called =
    first_lowest f n (first_from_Range (record { start = 0; end = n }) u j r (λ k. k < n → true ≡ f k) (λ k. k < n → false ≡ f k) ran
    (λ k q x. (called k true q x).1) (λ k q x. called k false q x))

-- octets that stand side by side
pub any_next : (f : ℕ → Bool) (b : List ℕ) (p n : ℕ) → list_any (λ k. f (get_or b (p + k) 0)) (range_with_len 0 n) ≡ any f (every_at 1 b p n)
any_next f b p n = simp one-mul at (any_places f 1 b p n)

-- the same where n stands for none
pub lowest_or : (f : ℕ → Bool) (n : ℕ) {r : Option ℕ} → r ≡ if_below n (lowest f n) → unwrap_or r n ≡ lowest f n
lowest_or f n e =
    test (ltb (lowest f n) n)
    (λ t. rw (e, t))
    λ t. rw (e, t) (omega (arith, ltb-false (lowest f n) n t, lowest_most f n))

-- what an answer says of the number that stands for it
pub zero_is : {n : ℕ} → ◌≡◌ {A = Option ℕ} None (unless_zero n) → n ≡ 0
zero_is {n} e = test (eqb n 0) (λ t. eqb-true n 0 t) λ t. let z = rw t at e in absurd (cc)

pub end_is : {n k : ℕ} → ◌≡◌ {A = Option ℕ} (Some k) (unless_zero n) → (k ≡ n) × (n ≡ 0 → ⊥)
end_is {n} {k} e = test (eqb n 0) (λ t. let z = rw t at e in absurd (cc)) λ t. let z = rw t at e in (cc, eqb-false n 0 t)
