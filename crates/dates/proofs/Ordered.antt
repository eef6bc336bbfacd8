-- The order of lists of numbers, and of numbers that are written in places.
-- Assumes nothing.
use mathlib.Core.List.{List, [], ◌∷◌}
use mathlib.Core.Path.{◌≡◌, refl, sym, ap, ◌∙◌}
use native.Mathlib.Nat.{suc-mul, zero-mul}
use native.Mathlib.Omega.{arith}
use Prim.Native.Nat.{ℕ, zero, suc, ◌+◌, ◌*◌, ◌<◌}
use lib.Dec.{ltb}
use lib.IntN.{pos, negsuc, pos-ne-negsuc, nat_abs}
use lib.ListN.{length}
use borrow.Author.Tests.{ltb-true, ltb-false, lt-ltb, le-ltb}
use Rattle.octets.proofs.Tests.{test}
use Rattle.std.proofs.Common.{Ordering, Less, Equal, Greater}
use Rattle.std.specs.Ordering.{match_ordering, nat_cmp, ordering_then}
use Rattle.std.specs.Cmp.Lexicographic.{slice_cmp}
use Rattle.std.proofs.lemmas.Bool.Decides.{nat_tests}
use Rattle.dates.specs.declared.DateTime.{DateTime}
use Rattle.dates.specs.Seconds.{sum, ordered, fields, order}
use Rattle.dates.proofs.Days.{sum_step}

module _ (x y : ℕ) (xs ys : List ℕ) where
  below : x < y → ordered (x ∷ xs) (y ∷ ys) ≡ negsuc 0
  unfolding ordered
  below h = rw (lt-ltb x y h) refl

  above : y < x → ordered (x ∷ xs) (y ∷ ys) ≡ pos 1
  unfolding ordered
  above h = rw (le-ltb x y (omega arith), lt-ltb y x h) refl

  -- the first numbers are the same
  pub tied : x ≡ y → ordered (x ∷ xs) (y ∷ ys) ≡ ordered xs ys
  unfolding ordered
  tied e = rw (le-ltb x y (omega arith), le-ltb y x (omega arith)) refl

  -- by cases on which comes first
  compared : {X : Type 0} → (x < y → X) → (y < x → X) → (x ≡ y → X) → X
  compared f g h =
      test (ltb x y) (λ e. f (ltb-true x y e)) λ e.
      test (ltb y x) (λ d. g (ltb-true y x d)) λ d.
      h (omega (arith, ltb-false x y e, ltb-false y x d))

-- two lists are in the order of two others, by what the order of their first numbers says of those
pub as_ordered : (x y v w : ℕ) (xs ys vs ws : List ℕ) → (x < y → v < w) → (y < x → w < v)
    → (x ≡ y → ordered xs ys ≡ ordered (v ∷ vs) (w ∷ ws)) → ordered (x ∷ xs) (y ∷ ys) ≡ ordered (v ∷ vs) (w ∷ ws)
as_ordered x y v w xs ys vs ws f g h =
    compared x y xs ys
    (λ l. below x y xs ys l ∙ sym (below v w vs ws (f l)))
    (λ l. above x y xs ys l ∙ sym (above v w vs ws (g l)))
    (λ e. tied x y xs ys e ∙ h e)

-- what follows numbers that differ does not matter
pub followed : (x y : ℕ) (xs ys vs ws : List ℕ) → (x ≡ y → ordered xs ys ≡ ordered vs ws) → ordered (x ∷ xs) (y ∷ ys) ≡ ordered (x ∷ vs) (y ∷ ws)
followed x y xs ys vs ws h = as_ordered x y x y xs ys vs ws (λ l. l) (λ l. l) λ e. h e ∙ sym (tied x y vs ws e)

shifted : (k x y : ℕ) (xs ys : List ℕ) → ordered (x ∷ xs) (y ∷ ys) ≡ ordered ((k + x) ∷ xs) ((k + y) ∷ ys)
shifted k x y xs ys =
    as_ordered x y (k + x) (k + y) xs ys xs ys (λ l. omega arith) (λ l. omega arith) λ e.
    sym (tied (k + x) (k + y) xs ys (omega arith))

-- A number in two places: f says how many values the low one has beside each of the high one.
pub places : (f : ℕ → ℕ) (x y r s : ℕ) (xs ys : List ℕ) → r < f x → s < f y
    → ordered (x ∷ r ∷ xs) (y ∷ s ∷ ys) ≡ ordered ((sum f x + r) ∷ xs) ((sum f y + s) ∷ ys)
places f x y r s xs ys h g =
    as_ordered x y (sum f x + r) (sum f y + s) (r ∷ xs) (s ∷ ys) xs ys
    (λ l. omega (arith, sum_step f x y l))
    (λ l. omega (arith, sum_step f y x l))
    (λ e. rw e (shifted (sum f y) r s xs ys))

-- the same with n values always
sum_same : (n x : ℕ) → sum (λ _. n) x ≡ x * n
unfolding sum
sum_same n zero = sym (zero-mul n)
sum_same n (suc x) = rw (sum_same n x, suc-mul) refl

pub digits : (n x y r s : ℕ) (xs ys : List ℕ) → r < n → s < n → ordered (x ∷ r ∷ xs) (y ∷ s ∷ ys) ≡ ordered ((x * n + r) ∷ xs) ((y * n + s) ∷ ys)
digits n x y r s xs ys h g = rw (← sum_same n x, ← sum_same n y) (places (λ _. n) x y r s xs ys h g)

pub ordered_self : (xs : List ℕ) → ordered xs xs ≡ pos 0
unfolding ordered
ordered_self [] = refl
ordered_self (x ∷ xs) = tied x x xs xs refl ∙ ordered_self xs

-- lists of one length that neither comes before
pub ordered_same : (xs ys : List ℕ) → length xs ≡ length ys → ordered xs ys ≡ pos 0 → xs ≡ ys
ordered_same [] [] l e = refl
ordered_same [] (y ∷ ys) l e = absurd (omega (arith, l))
ordered_same (x ∷ xs) [] l e = absurd (omega (arith, l))
ordered_same (x ∷ xs) (y ∷ ys) l e =
    compared x y xs ys
    (λ h. absurd (pos-ne-negsuc 0 0 (sym e ∙ below x y xs ys h)))
    (λ h. absurd (omega (arith, ap nat_abs (sym e ∙ above x y xs ys h))))
    (λ h. rw (h, ordered_same xs ys (omega (arith, l)) (sym (tied x y xs ys h) ∙ e)) refl)

then_equal : (o : Ordering) → ordering_then o Equal ≡ o
then_equal Less = refl
then_equal Equal = refl
then_equal Greater = refl

-- std's order of lists of one length, as -1, 0 or 1
ordered_by_cmp : (xs ys : List ℕ) → length xs ≡ length ys → match_ordering (slice_cmp nat_cmp xs ys) (negsuc 0) (pos 0) (pos 1) ≡ ordered xs ys
unfolding ordered
ordered_by_cmp [] [] l = refl
ordered_by_cmp [] (y ∷ ys) l = absurd (omega (arith, l))
ordered_by_cmp (x ∷ xs) [] l = absurd (omega (arith, l))
ordered_by_cmp (x ∷ xs) (y ∷ ys) l = grind (arith, nat_tests, ordered_by_cmp xs ys (omega (arith, l)))

-- the derived order of times compares one field after another
pub order_by_cmp : (a b : DateTime) (o : Ordering)
    → o ≡ ordering_then (nat_cmp a.year b.year) (ordering_then (nat_cmp a.month b.month) (ordering_then (nat_cmp a.day b.day)
    (ordering_then (nat_cmp a.hour b.hour) (ordering_then (nat_cmp a.minute b.minute) (nat_cmp a.second b.second)))))
    → match_ordering o (negsuc 0) (pos 0) (pos 1) ≡ order a b
unfolding order fields
order_by_cmp a b o e = rw (e, ← then_equal (nat_cmp a.second b.second)) (ordered_by_cmp (fields a) (fields b) refl)
