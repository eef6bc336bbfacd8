-- Laws on searches: some element, every element, the lowest number that passes. For loops that go through a list or count up.
-- Assumes nothing.
use borrow.Author.Tests.{eqb-true, eqb-false, lt-ltb, le-ltb, le-leb, lt-leb, eq-eqb, ne_eqb}
use mathlib.Core.Bool.{Bool, true, false}
use mathlib.Core.List.{List, ◌∷◌}
use mathlib.Core.Path.{◌≡◌, sym, ◌∙◌}
use native.Mathlib.Omega.{arith}
use native.Mathlib.Numerals.{add-one}
use Prim.Native.Nat.{ℕ, zero, suc, ◌+◌, ◌-◌, ◌≤◌, ◌<◌}
use lib.Dec.{eqb}
use Rattle.octets.specs.Lists.{any, all, lowest_from, lowest}
use Rattle.octets.proofs.Tests.{test}

-- the tests of the code, as the facts of its branches give them
pub ruleset tests = (lt-ltb, le-ltb, le-leb, lt-leb, eq-eqb, ne_eqb)

module _ {A : Type 0} (f : A → Bool) (x : A) (l : List A) where
  pub any_here : f x ≡ true → any f (x ∷ l) ≡ true
  unfolding any
  any_here e = rw e

  pub any_next : f x ≡ false → any f (x ∷ l) ≡ any f l
  unfolding any
  any_next e = rw e

  pub all_here : f x ≡ false → all f (x ∷ l) ≡ false
  unfolding all
  all_here e = rw e

  pub all_next : f x ≡ true → all f (x ∷ l) ≡ all f l
  unfolding all
  all_next e = rw e

-- `while t < n { if f(t) { return t; } t += 1; } n` with the invariant `Rest f n t`

-- t is no number above the lowest: the search from t on has the same result
abbrev pub Rest : (ℕ → Bool) → ℕ → ℕ → Type 0
Rest f n t = (t ≤ n) × (lowest_from f t (n - t) ≡ lowest f n)

module _ (f : ℕ → Bool) (n : ℕ) where
  pub rest_first : Rest f n 0
  rest_first = (omega arith, let q : n - 0 ≡ n = omega arith in rw q)

  pub rest_here : (t : ℕ) → Rest f n t → t < n → f t ≡ true → t ≡ lowest f n
  unfolding lowest_from
  rest_here t r h e = let q : n - t ≡ suc (n - suc t) = omega arith in rw (q, e) at r.1

  pub rest_next : (t : ℕ) → Rest f n t → t < n → f t ≡ false → Rest f n (t + 1)
  unfolding lowest_from
  rest_next t r h e = let q : n - t ≡ suc (n - suc t) = omega arith in (omega arith, rw add-one (rw (q, e) at r.1))

  pub rest_none : (t : ℕ) → Rest f n t → n ≤ t → n ≡ lowest f n
  unfolding lowest_from
  rest_none t r h = let q : n - t ≡ 0 = omega arith in let p : t ≡ n = omega arith in sym p ∙ rw q at r.1

-- what is so of the lowest number

record Lowest (f : ℕ → Bool) (k n m : ℕ) : Type 0 where
  least : k ≤ m
  most : m ≤ k + n
  passes : m < k + n → f m ≡ true
  before : (i : ℕ) → k ≤ i → i < m → f i ≡ false

first_or : (f : ℕ → Bool) (k i : ℕ) → f k ≡ false → k ≤ i → (suc k ≤ i → f i ≡ false) → f i ≡ false
first_or f k i e h g = test (eqb k i) (λ q. rw (eqb-true k i q) at e) λ q. g (omega (arith, eqb-false k i q))

lowest_is : (f : ℕ → Bool) (k n : ℕ) → Lowest f k n (lowest_from f k n)
unfolding lowest_from
lowest_is f k zero = record { least = omega arith; most = omega arith; passes = λ h. absurd (omega arith); before = λ i h g. absurd (omega arith) }
lowest_is f k (suc n) =
    test (f k) (λ e. rw e (record { least = omega arith; most = omega arith; passes = λ h. e; before = λ i h g. absurd (omega arith) })) λ e.
    let r = lowest_is f (suc k) n in
    rw e (record {
      least = omega (arith, r.least);
      most = omega (arith, r.most);
      passes = λ h. r.passes (omega arith);
      before = λ i h g. first_or f k i e h (λ j. r.before i j g);
    })

pub lowest_most : (f : ℕ → Bool) (n : ℕ) → lowest f n ≤ n
lowest_most f n = omega (arith, (lowest_is f 0 n).most)

pub lowest_passes : (f : ℕ → Bool) (n : ℕ) → lowest f n < n → f (lowest f n) ≡ true
lowest_passes f n h = (lowest_is f 0 n).passes (omega arith)

pub before_lowest : (f : ℕ → Bool) (n k : ℕ) → k < lowest f n → f k ≡ false
before_lowest f n k h = (lowest_is f 0 n).before k (omega arith) h

-- a test that, computed, none of the n numbers passes
pub upto : (f : ℕ → Bool) (n : ℕ) → lowest f n ≡ n → (k : ℕ) → k < n → f k ≡ false
upto f n e k h = before_lowest f n k (omega arith)

-- a test that passes everywhere from one place up to, not with, another: one place later, and from the first place on
pub passes_later : (f : ℕ → Bool) (i j : ℕ) → ((k : ℕ) → i ≤ k → k < j → f (suc k) ≡ true) → (k : ℕ) → suc i ≤ k → k < suc j → f k ≡ true
passes_later f i j h zero g l = absurd (omega arith)
passes_later f i j h (suc k) g l = h k (omega arith) (omega arith)

pub passes_longer : (f : ℕ → Bool) (j : ℕ) → f 0 ≡ true → ((k : ℕ) → k < j → f (suc k) ≡ true) → (k : ℕ) → k < suc j → f k ≡ true
passes_longer f j e h zero l = e
passes_longer f j e h (suc k) l = h k (omega arith)
