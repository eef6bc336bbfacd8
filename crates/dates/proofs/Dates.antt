-- Dates as facts on their numbers; days are numbered in the order of their dates.
-- Assumes nothing.
use mathlib.Core.Bool.{Bool, true, ◌&&◌}
use mathlib.Core.List.{List, ◌∷◌}
use mathlib.Core.Path.{◌≡◌, refl, sym, ap, ◌∙◌}
use native.Mathlib.Omega.{arith}
use Prim.Native.Nat.{ℕ, ◌+◌, ◌-◌, ◌≤◌, ◌<◌}
use lib.Dec.{ltb, leb}
use lib.IntN.{pos}
use lib.ListN.{get_or}
use borrow.Author.Tests.{ltb-true, leb-true, le-leb}
use Rattle.octets.proofs.Tests.{and_left, and_right}
use Rattle.dates.specs.declared.DateTime.{DateTime}
use Rattle.dates.specs.declared.TimeKind.{TimeKind}
use Rattle.dates.specs.Calendar.{month_days, years, is_date, is_time_of_day, in_range}
use Rattle.dates.specs.Seconds.{sum, year_days, day_number, ordered, fields}
use Rattle.dates.proofs.Cases.{time}
use Rattle.dates.proofs.Days.{sum_step, months_most}
use Rattle.dates.proofs.Ordered.{as_ordered, tied, followed, places, ordered_same}

-- the tests of a date
pub record Date (t : DateTime) : Type 0 where
  pub some_month : 1 ≤ t.month
  pub last_month : t.month ≤ 12
  pub some_day : 1 ≤ t.day
  pub last_day : t.day ≤ month_days t.year t.month

conjunction : (a b c : Bool) → (a && b && c) ≡ true → (a ≡ true) × (b ≡ true) × (c ≡ true)
conjunction a b c e = let ab = and_left (a && b) c e in (and_left a b ab, and_right a b ab, and_right (a && b) c e)

pub date : (t : DateTime) → is_date t ≡ true → Date t
unfolding is_date
date t e =
    let m = leb 1 t.month && leb t.month 12 in
    let tests = conjunction m (leb 1 t.day) (leb t.day (month_days t.year t.month)) e in
    record {
      some_month = leb-true 1 t.month (and_left _ (leb t.month 12) tests.0);
      last_month = leb-true t.month 12 (and_right (leb 1 t.month) _ tests.0);
      some_day = leb-true 1 t.day tests.1;
      last_day = leb-true t.day (month_days t.year t.month) tests.2;
    }

pub is_date_lem : (t : DateTime) → Date t → is_date t ≡ true
unfolding is_date
is_date_lem t d =
    rw (
      le-leb 1 t.month d.some_month,
      le-leb t.month 12 d.last_month,
      le-leb 1 t.day d.some_day,
      le-leb t.day (month_days t.year t.month) d.last_day,
    ) refl

-- the tests of a time of day
pub clock : (t : DateTime) → is_time_of_day t ≡ true → (t.hour < 24) × (t.minute < 60) × (t.second < 60)
unfolding is_time_of_day
clock t e =
    let tests = conjunction (ltb t.hour 24) (ltb t.minute 60) (ltb t.second 60) e in
    (ltb-true t.hour 24 tests.0, ltb-true t.minute 60 tests.1, ltb-true t.second 60 tests.2)

-- the tests of a time of a kind
pub ranged : (k : TimeKind) (t : DateTime) → in_range k t ≡ true → (t.year < years k) × (is_date t ≡ true) × (is_time_of_day t ≡ true)
unfolding in_range
ranged k t e = let tests = conjunction (ltb t.year (years k)) (is_date t) (is_time_of_day t) e in (ltb-true t.year (years k) tests.0, tests.1, tests.2)

-- the days of a year before a date
abbrev day_in_year : DateTime → ℕ
day_in_year t = sum (month_days t.year) t.month + (t.day - 1)

number : (t : DateTime) → sum year_days t.year + day_in_year t ≡ day_number t
unfolding day_number
number t = omega arith

in_year_lem : (t : DateTime) → Date t → day_in_year t < year_days t.year
in_year_lem t d = omega (arith, d.some_day, d.last_day, months_most t.year t.month (omega (arith, d.last_month)))

-- a day's number is below the days of all years up to its own
pub day_below : (t : DateTime) (y : ℕ) → Date t → t.year < y → day_number t < sum year_days y
day_below t y d h = omega (arith, in_year_lem t d, number t, sum_step year_days t.year y h)

-- days that are counted from 1 within months
counted : (f : ℕ → ℕ) (m n c d : ℕ) (xs ys : List ℕ) → 1 ≤ c → c ≤ f m → 1 ≤ d → d ≤ f n
    → ordered (m ∷ c ∷ xs) (n ∷ d ∷ ys) ≡ ordered ((sum f m + (c - 1)) ∷ xs) ((sum f n + (d - 1)) ∷ ys)
counted f m n c d xs ys c₁ c₂ d₁ d₂ =
    followed m n (c ∷ xs) (d ∷ ys) ((c - 1) ∷ xs) ((d - 1) ∷ ys)
    (λ _. as_ordered c d (c - 1) (d - 1) xs ys xs ys (λ l. omega arith) (λ l. omega arith) λ e. sym (tied (c - 1) (d - 1) xs ys (omega arith)))
    ∙ places f m n (c - 1) (d - 1) xs ys (omega arith) (omega arith)

-- days are numbered in the order of their dates, whatever is compared next
pub days_ordered : (a b : DateTime) (xs ys : List ℕ) → Date a → Date b
    → ordered (a.year ∷ a.month ∷ a.day ∷ xs) (b.year ∷ b.month ∷ b.day ∷ ys) ≡ ordered (day_number a ∷ xs) (day_number b ∷ ys)
days_ordered a b xs ys d e =
    followed a.year b.year (a.month ∷ a.day ∷ xs) (b.month ∷ b.day ∷ ys) (day_in_year a ∷ xs) (day_in_year b ∷ ys)
    (λ y. rw y (counted (month_days b.year) a.month b.month a.day b.day xs ys d.some_day (rw y at d.last_day) e.some_day e.last_day))
    ∙ places year_days a.year b.year (day_in_year a) (day_in_year b) xs ys (in_year_lem a d) (in_year_lem b e)
    ∙ rw (number a, number b) refl

-- times in whose order no field decides
pub same_fields : (a b : DateTime) → ordered (fields a) (fields b) ≡ pos 0 → a ≡ b
unfolding fields
same_fields a b e = ap made (ordered_same (fields a) (fields b) refl e)
  where
    made : List ℕ → DateTime
    made l = time (get_or l 0 0) (get_or l 1 0) (get_or l 2 0) (get_or l 3 0) (get_or l 4 0) (get_or l 5 0)
