-- The days of months and years: tables, closed forms, and sums that grow.
-- Assumes nothing.
use mathlib.Core.Bool.{Bool, true, false, not, ◌&&◌}
use mathlib.Core.List.{List, [], ◌∷◌}
use mathlib.Core.Logic.{◌≢◌}
use mathlib.Core.Path.{◌≡◌, refl, sym, ap}
use native.Mathlib.Nat.{div-add-mod', mod-lt, suc-mul}
use native.Mathlib.Omega.{arith}
use Prim.Native.Nat.{ℕ, zero, suc, ◌+◌, ◌-◌, ◌*◌, ◌/◌, ◌%◌, ◌≤◌, ◌<◌}
use lib.Arith.{digits_div}
use lib.Dec.{eqb, leb}
use lib.ListN.{get_or, get_or-eq_default}
use lib.Seq.{get_or-set_other}
use borrow.Author.Tests.{eqb-true, eqb-false, ne_eqb, le-leb, lt-leb, not-false}
use Rattle.octets.specs.Tests.{if}
use Rattle.octets.specs.Lists.{lowest_from}
use Rattle.octets.proofs.Tests.{test}
use Rattle.octets.proofs.Search.{upto}
use Rattle.dates.specs.Calendar.{leap, february, month_days}
use Rattle.dates.specs.Seconds.{sum, year_days}

-- months, by the days of February

abbrev pub months : ℕ → List ℕ
months f = 0 ∷ 31 ∷ f ∷ 31 ∷ 30 ∷ 31 ∷ 30 ∷ 31 ∷ 31 ∷ 30 ∷ 31 ∷ 30 ∷ 31 ∷ []

abbrev pub month_in : ℕ → ℕ → ℕ
month_in f m = get_or (months f) m 0

pub by_february : (y f : ℕ) → february y ≡ f → month_days y ≡ month_in f
unfolding month_days
by_february y f e = ap month_in e

pub plain_month : (y m : ℕ) → m ≢ 2 → month_in 28 m ≡ month_days y m
unfolding month_days
plain_month y m h = sym (get_or-set_other (months 28) 2 m (february y) 0 h)

pub second_month : (y m r : ℕ) → m ≡ 2 → r ≡ february y → r ≡ month_days y m
unfolding month_days
second_month y m r e h = rw e h

pub no_month : (y m : ℕ) → 12 < m → month_days y m ≡ 0
unfolding month_days
no_month y m h = get_or-eq_default (months (february y)) 0 h

-- years

-- 1 for a test that holds
abbrev one : Bool → ℕ
one t = if t 1 λ _. 0

pub year_days_lem : (y : ℕ) → year_days y ≡ if (leap y) 366 λ _. 365
unfolding year_days sum month_days february
year_days_lem y = test (leap y) (λ e. rw e refl) λ e. rw e refl

year_day : (y : ℕ) → year_days y ≡ 365 + one (leap y)
year_day y = rw year_days_lem (test (leap y) (λ e. rw e refl) λ e. rw e refl)

pub year_most : (y : ℕ) → year_days y ≤ 366
year_most y = rw year_days_lem (test (leap y) (λ e. rw e (omega arith)) λ e. rw e (omega arith))

-- the multiples of a number below another: one more where that is a multiple itself
multiples : (k y : ℕ) → (suc y + k) / suc k ≡ (y + k) / suc k + one (eqb (y % suc k) 0)
multiples k y =
    let e : y / suc k * suc k + y % suc k ≡ y = div-add-mod' y (suc k) in
    let l : y % suc k < suc k = mod-lt y (omega arith) in
    let next : suc (y / suc k) * suc k ≡ y / suc k * suc k + suc k = suc-mul (y / suc k) (suc k) in
    test (eqb (y % suc k) 0)
    (λ z.
    let up : suc y + k ≡ suc (y / suc k) * suc k + 0 = omega (arith, eqb-true (y % suc k) 0 z) in
    let at : y + k ≡ y / suc k * suc k + k = omega (arith, eqb-true (y % suc k) 0 z) in
    rw (z, up, at, digits_div (suc (y / suc k)) {m = suc k} {r = 0} (omega arith), digits_div (y / suc k) {m = suc k} {r = k} (omega arith)) (omega arith))
    (λ z.
    let up : suc y + k ≡ suc (y / suc k) * suc k + y % suc k = omega arith in
    let at : y + k ≡ suc (y / suc k) * suc k + (y % suc k - 1) = omega (arith, eqb-false (y % suc k) 0 z) in
    rw (z, up, at, digits_div (suc (y / suc k)) l, digits_div (suc (y / suc k)) {m = suc k} {r = y % suc k - 1} (omega arith)) (omega arith))

-- a leap year is one more multiple of four, or none more
leap_counts : (y : ℕ) → one (leap y) + one (eqb (y % 100) 0) ≡ one (eqb (y % 4) 0) + one (eqb (y % 400) 0)
unfolding leap
leap_counts y =
    test (eqb (y % 4) 0)
    (λ e. test (eqb (y % 100) 0) (λ f. rw (e, f) (omega arith)) λ f.
    rw (e, f, ne_eqb (y % 400) 0 (λ g. eqb-false (y % 100) 0 f (omega arith))) refl)
    (λ e. rw (e, ne_eqb (y % 100) 0 (λ g. eqb-false (y % 4) 0 e (omega arith)), ne_eqb (y % 400) 0 (λ g. eqb-false (y % 4) 0 e (omega arith))) refl)

-- the days of the years before a year
pub years_closed : (y : ℕ) → sum year_days y + (y + 99) / 100 ≡ 365 * y + (y + 3) / 4 + (y + 399) / 400
unfolding sum
years_closed zero = refl
years_closed (suc y) = omega (arith, years_closed y, year_day y, leap_counts y, multiples 3 y, multiples 99 y, multiples 399 y)

-- sums

-- up to a higher number there is one more summand at least
pub sum_step : (f : ℕ → ℕ) (m n : ℕ) → m < n → sum f m + f m ≤ sum f n
unfolding sum
sum_step f m zero h = absurd (omega arith)
sum_step f m (suc n) h =
    test (eqb m n) (λ e. rw (eqb-true m n e) (omega arith)) λ e.
    omega (arith, sum_step f m n (omega (arith, eqb-false m n e)))

-- a month ends within the year
pub months_most : (y m : ℕ) → m < 13 → sum (month_days y) m + month_days y m ≤ year_days y
unfolding year_days
months_most y m h = sum_step (month_days y) m 13 h

-- behind December there is no more
pub whole_year : (y m : ℕ) → 12 < m → sum (month_days y) m ≡ year_days y
unfolding sum year_days
whole_year y zero h = absurd (omega arith)
whole_year y (suc m) h =
    test (eqb m 12) (λ e. rw (eqb-true m 12 e) refl) λ e.
    omega (arith, no_month y m (omega (arith, eqb-false m 12 e)), whole_year y m (omega (arith, eqb-false m 12 e)))

-- the days of a year before each month but for a 29 February
abbrev before : List ℕ
before = 0 ∷ 0 ∷ 31 ∷ 59 ∷ 90 ∷ 120 ∷ 151 ∷ 181 ∷ 212 ∷ 243 ∷ 273 ∷ 304 ∷ 334 ∷ []

-- by computing each, in a leap year and in another
months_closed : (y m : ℕ) → m < 13 → get_or before m 0 + one (leap y && leb 3 m) ≡ sum (month_days y) m
unfolding lowest_from sum february
months_closed y m h =
    test (leap y)
    (λ e. rw (e, by_february y 29 (rw e refl))
    (eqb-true _ _ (not-false _ (upto (λ i. not (eqb (get_or before i 0 + one (leb 3 i)) (sum (month_in 29) i))) 13 refl m h))))
    (λ e. rw (e, by_february y 28 (rw e refl))
    (eqb-true _ _ (not-false _ (upto (λ i. not (eqb (get_or before i 0 + 0) (sum (month_in 28) i))) 13 refl m h))))

-- the three ways of the code through that table, each with a bound
module _ (y m : ℕ) where
  bounded : {n : ℕ} → m < 13 → n ≡ sum (month_days y) m → (n ≡ sum (month_days y) m) × (n < 367)
  bounded h e = (e, omega (arith, e, months_most y m h, year_most y))

  pub before_early : m < 3 → (get_or before m 0 ≡ sum (month_days y) m) × (get_or before m 0 < 367)
  before_early h =
      let c = months_closed y m (omega arith) in
      bounded (omega arith) (test (leap y) (λ e. omega (arith, rw (e, lt-leb 3 m h) at c)) λ e. omega (arith, rw e at c))

  pub before_leap : {t : Bool} → 3 ≤ m → m ≤ 12 → t ≡ leap y → t ≡ true → (get_or before m 0 + 1 ≡ sum (month_days y) m) × (get_or before m 0 + 1 < 367)
  before_leap h l g e = bounded (omega arith) (rw (← g, e, le-leb 3 m h) at (months_closed y m (omega arith)))

  pub before_plain : {t : Bool} → m ≤ 12 → t ≡ leap y → t ≡ false → (get_or before m 0 ≡ sum (month_days y) m) × (get_or before m 0 < 367)
  before_plain l g e = bounded (omega arith) (omega (arith, rw (← g, e) at (months_closed y m (omega arith))))
