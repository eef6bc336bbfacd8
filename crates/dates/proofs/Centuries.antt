-- What is proved of centuries (FORMATS, "Centuries"), of every window whose first year is one of 1901 to 2000: a UTCTime that becomes a GeneralizedTime
-- and then a UTCTime again is the same, and the other way round inside the window; there is a 29 February on both sides or on neither.
-- Assumes nothing.
use mathlib.Core.Bool.{true}
use mathlib.Core.Logic.{◌↔◌}
use mathlib.Core.Path.{◌≡◌, refl, sym, ap, ◌∙◌}
use native.Mathlib.Omega.{arith}
use Prim.Native.Nat.{ℕ, ◌+◌, ◌%◌, ◌≤◌, ◌<◌}
use lib.Dec.{eqb, ltb, leb}
use borrow.Author.Tests.{eqb-true, ltb-true, ltb-false, leb-true, lt-ltb, le-leb}
use Rattle.octets.specs.Tests.{if}
use Rattle.octets.proofs.Tests.{test, and_left, and_right}
use Rattle.dates.specs.declared.DateTime.{DateTime}
use Rattle.dates.specs.declared.TimeKind.TheVariants.{Utc, Generalized}
use Rattle.dates.specs.Calendar.{leap, february, month_days, years, is_date, is_time_of_day, in_range}
use Rattle.dates.specs.Century.{first_year, in_window, in_year, to_utc, Shortens, window_year, to_generalized}
use Rattle.dates.proofs.Dates.{ranged}
use Rattle.dates.proofs.Theorems.{two_digit_leap}

-- The one fact about a window's first year: of the multiples of a hundred, 2000 alone is inside.
pub record Around2000 (f : ℕ) : Type 0 where
  pub behind_1900 : 1900 < f
  pub upto_2000 : f ≤ 2000

-- Each version's window has it.
pub windows : (v : ℕ) → Around2000 (first_year v)
unfolding first_year
windows v =
    test (eqb v 1) (λ e. rw e (record { behind_1900 = omega arith; upto_2000 = omega arith })) λ e.
    rw e (record { behind_1900 = omega arith; upto_2000 = omega arith })

-- years of a window, whatever its first year is

within : (f y : ℕ) → in_window f y ≡ true → (f ≤ y) × (y < f + 100)
unfolding in_window
within f y e = (leb-true f y (and_left _ (ltb y (f + 100)) e), ltb-true y (f + 100) (and_right (leb f y) _ e))

year_inside : (f y : ℕ) → in_window f (window_year f y) ≡ true
unfolding in_window window_year
year_inside f y = rw (le-leb f (window_year f y) (omega arith), lt-ltb (window_year f y) (f + 100) (omega arith)) refl

year_digits_lem : (f y : ℕ) → y < 100 → window_year f y % 100 ≡ y
unfolding window_year
year_digits_lem f y h = omega arith

digits_year : (f y : ℕ) → in_window f y ≡ true → window_year f (y % 100) ≡ y
unfolding window_year
digits_year f y e = let (l, h) = within f y e in omega arith

-- A GeneralizedTime inside the window is that of its UTCTime: back and forth.
pub back_and_forth : (f : ℕ) (g : DateTime) → in_window f g.year ≡ true → to_generalized f (to_utc g) ≡ g
unfolding in_year to_utc to_generalized
back_and_forth f g e = rw (digits_year f g.year e) refl

-- A UTCTime becomes a GeneralizedTime inside the window, and that becomes the same UTCTime.
stays_inside : (f : ℕ) (u : DateTime) → in_window f (to_generalized f u).year ≡ true
unfolding in_year to_generalized
stays_inside f u = year_inside f u.year

comes_back : (f : ℕ) (u : DateTime) → in_range Utc u ≡ true → to_utc (to_generalized f u) ≡ u
unfolding years in_year to_utc to_generalized
comes_back f u e = rw (year_digits_lem f u.year (ranged Utc u e).0) refl

module _ (f : ℕ) (w : Around2000 f) where
  -- inside the window each multiple of four has a 29 February
  leap_inside : (y : ℕ) → in_window f y ≡ true → leap y ≡ eqb (y % 4) 0
  unfolding leap
  leap_inside y e =
      let (l, h) = within f y e in
      test (eqb (y % 100) 0)
      (λ z. let at : y ≡ 2000 = omega (arith, w.behind_1900, w.upto_2000, eqb-true (y % 100) 0 z) in rw at refl)
      (λ z. rw z (test (eqb (y % 4) 0) (λ q. rw q refl) λ q. rw q refl))

  -- A leap year of two digits is one in its century, and no other is.
  pub same_leap : (y : ℕ) → in_window f y ≡ true → leap (y % 100) ≡ leap y
  same_leap y e =
      let by_four : y % 100 % 4 ≡ y % 4 = omega arith in
      two_digit_leap (y % 100) (omega arith) ∙ ap (λ (n : ℕ). eqb n 0) by_four ∙ sym (leap_inside y e)

  -- So there is a date inside the window exactly if there is one of its UTCTime: 29 February survives both ways.
  pub same_date : (g : DateTime) → in_window f g.year ≡ true → is_date (to_utc g) ≡ is_date g
  unfolding february month_days is_date in_year to_utc
  same_date g e = rw (same_leap g.year e) refl

  -- A GeneralizedTime inside the window is in range exactly if its UTCTime is.
  pub same_range : (g : DateTime) → in_window f g.year ≡ true → in_range Utc (to_utc g) ≡ in_range Generalized g
  unfolding years is_time_of_day in_range in_year to_utc
  same_range g e =
      let (l, h) = within f g.year e in
      rw (same_date g e, lt-ltb (g.year % 100) 100 (omega arith), lt-ltb g.year 10000 (omega (arith, w.upto_2000))) refl

  -- Forth and back: a UTCTime in range becomes a GeneralizedTime in range and inside the window, and that becomes the same UTCTime.
  pub forth_and_back : (u : DateTime) → in_range Utc u ≡ true
      → (to_utc (to_generalized f u) ≡ u) × (in_window f (to_generalized f u).year ≡ true) × (in_range Generalized (to_generalized f u) ≡ true)
  forth_and_back u e =
      let back = comes_back f u e in
      let inside = stays_inside f u in
      (back, inside, sym (same_range (to_generalized f u) inside) ∙ ap (in_range Utc) back ∙ e)

  -- Of the times inside the window, a UTCTime in range is that of one: the one that it becomes.
  pub shortens_one : (u g : DateTime) → in_range Utc u ≡ true → Shortens f u g ↔ (g ≡ to_generalized f u)
  shortens_one u g e = (
    λ s. sym (ap (to_generalized f) s.digits ∙ back_and_forth f g s.inside),
    λ q. let (back, inside, r) = forth_and_back u e in rw q (record { inside = inside; digits = sym back }),
  )

-- Link version 1 has the years 1970 to 2069, version 2 1950 to 2049.
pub version_1 : (y : ℕ) → y < 100 → window_year (first_year 1) y ≡ if (ltb y 70) (2000 + y) λ _. 1900 + y
unfolding first_year window_year
version_1 y h = test (ltb y 70) (λ e. rw e (omega (arith, ltb-true y 70 e))) λ e. rw e (omega (arith, ltb-false y 70 e))

pub version_2 : (y : ℕ) → y < 100 → window_year (first_year 2) y ≡ if (ltb y 50) (2000 + y) λ _. 1900 + y
unfolding first_year window_year
version_2 y h = test (ltb y 50) (λ e. rw e (omega (arith, ltb-true y 50 e))) λ e. rw e (omega (arith, ltb-false y 50 e))
