-- Laws on tests over the elements of a list.
-- Assumes nothing.
use borrow.Author.Tests.{eqb-true, eqb-false}
use mathlib.Core.Bool.{Bool, true, false, ◌||◌, false≢true}
use mathlib.Core.List.Memᴰ.{head as here}
use mathlib.Core.List.Memᴰ.{tail as there}
use mathlib.Core.List.{List, [], ◌∷◌, Memᴰ as In}
use mathlib.Core.Logic.{◌⊎◌, inl, inr, ⊎_elim}
use mathlib.Core.Path.{◌≡◌, refl, sym, ◌∙◌}
use native.Mathlib.Omega.{arith}
use Prim.Native.Nat.{ℕ, zero, suc, ◌+◌, ◌≤◌, ◌<◌}
use lib.Dec.{eqb}
use lib.ListN.{length, get_or}
use Rattle.octets.specs.Lists.{any, all, tabulate}
use Rattle.octets.proofs.Tests.{test}
use Rattle.octets.proofs.Lists.{both}

pub or_cases : (a b : Bool) → (a || b) ≡ true → (a ≡ true) ⊎ (b ≡ true)
or_cases true b e = inl refl
or_cases false b e = inr e

pub or_left : (a b : Bool) → a ≡ true → (a || b) ≡ true
or_left a b e = rw e

pub or_right : (a b : Bool) → b ≡ true → (a || b) ≡ true
or_right true b e = refl
or_right false b e = e

pub not_both : {X : Type 0} (a : Bool) → a ≡ true → a ≡ false → X
not_both a e f = absurd (false≢true (sym f ∙ e))

pub if_not_true : (a : Bool) → (a ≡ true → ⊥) → a ≡ false
if_not_true true h = absurd (h refl)
if_not_true false h = refl

pub if_not_false : (a : Bool) → (a ≡ false → ⊥) → a ≡ true
if_not_false true h = refl
if_not_false false h = absurd (h refl)

module _ {A : Type 0} where
  -- an element at which f has the value v
  pub record Some (f : A → Bool) (v : Bool) (l : List A) : Type 0 where
    pub element : A
    pub among : In element l
    pub has : f element ≡ v

module _ {A : Type 0} (f : A → Bool) where
  some_next : {v : Bool} {x : A} {l : List A} → Some f v l → Some f v (x ∷ l)
  some_next s = record { element = s.element; among = there s.among; has = s.has }

  pub any_some : (l : List A) → any f l ≡ true → Some f true l
  unfolding any
  any_some [] e = absurd (false≢true e)
  any_some (x ∷ l) e = ⊎_elim (λ h. record { element = x; among = here refl; has = h }) (λ h. some_next (any_some l h)) (or_cases (f x) _ e)

  pub some_any : {x : A} {l : List A} → In x l → f x ≡ true → any f l ≡ true
  unfolding any
  some_any (here {x = y} {xs = l} q) e = or_left (f y) (any f l) (rw q at e)
  some_any (there {x = y} {xs = l} i) e = or_right (f y) (any f l) (some_any i e)

  pub any_none : {x : A} {l : List A} → any f l ≡ false → In x l → f x ≡ false
  any_none {x} {l} e i = if_not_true (f x) (λ h. not_both (any f l) (some_any i h) e)

  pub none_any : (l : List A) → ((x : A) → In x l → f x ≡ false) → any f l ≡ false
  none_any l h = if_not_true (any f l) (λ e. let s = any_some l e in not_both (f s.element) s.has (h s.element s.among))

  pub all_each : {x : A} {l : List A} → all f l ≡ true → In x l → f x ≡ true
  unfolding all
  all_each e (here {x = y} {xs = l} q) = rw q (both (f y) (all f l) e).0
  all_each e (there {x = y} {xs = l} i) = all_each (both (f y) (all f l) e).1 i

  pub each_all : (l : List A) → ((x : A) → In x l → f x ≡ true) → all f l ≡ true
  unfolding all
  each_all [] h = refl
  each_all (x ∷ l) h = rw (h x (here refl)) (each_all l (λ y i. h y (there i)))

  pub all_some : (l : List A) → all f l ≡ false → Some f false l
  unfolding all
  all_some [] e = absurd (false≢true (sym e))
  all_some (x ∷ l) e =
      test (f x) (λ h. some_next (all_some l (rw h at e))) λ h. record { element = x; among = here refl; has = h }

  pub some_all : {x : A} {l : List A} → In x l → f x ≡ false → all f l ≡ false
  some_all {x} {l} i e = if_not_true (all f l) (λ h. not_both (f x) (all_each h i) e)

-- elements by their places
module _ {A : Type 0} where
  pub record Place (x : A) (l : List A) (d : A) : Type 0 where
    pub place : ℕ
    pub within : place < length l
    pub is : get_or l place d ≡ x

  pub in_place : (d : A) {x : A} {l : List A} → In x l → Place x l d
  in_place d (here q) = record { place = 0; within = omega arith; is = sym q }
  in_place d (there i) = let p = in_place d i in record { place = suc p.place; within = omega arith; is = p.is }

  pub place_in : (l : List A) (i : ℕ) (d : A) → i < length l → In (get_or l i d) l
  place_in [] i d h = absurd (omega arith)
  place_in (x ∷ l) zero d h = here refl
  place_in (x ∷ l) (suc i) d h = there (place_in l i d (omega arith))

-- the numbers from k, n of them
number_first : (k u : ℕ) (l : List ℕ) → k ≤ u → (suc k ≤ u → In u l) → In u (k ∷ l)
number_first k u l h f = test (eqb u k) (λ e. here (eqb-true u k e)) λ e. there (f (omega (arith, eqb-false u k e)))

pub in_numbers : (k n u : ℕ) → k ≤ u → u < k + n → In u (tabulate (λ i. i) k n)
unfolding tabulate
in_numbers k zero u h l = absurd (omega arith)
in_numbers k (suc n) u h l = number_first k u _ h (λ m. in_numbers (suc k) n u m (omega arith))

pub in_below : (n u : ℕ) → u < n → In u (tabulate (λ i. i) 0 n)
in_below n u h = in_numbers 0 n u (omega arith) (omega arith)
