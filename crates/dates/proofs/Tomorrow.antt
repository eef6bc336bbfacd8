-- The day after a date: the next number, a date again, at the same time of day.
-- Assumes nothing.
use mathlib.Core.Bool.{false}
use mathlib.Core.Path.{◌≡◌, refl, ap, ◌∙◌}
use native.Mathlib.Omega.{arith}
use Prim.Native.Nat.{ℕ, zero, suc, ◌≤◌, ◌<◌}
use lib.Dec.{eqb, ltb}
use borrow.Author.Tests.{ltb-true, ltb-false, eqb-false}
use Rattle.octets.specs.Lists.{lowest_from}
use Rattle.octets.proofs.Search.{upto}
use Rattle.octets.proofs.Tests.{test}
use Rattle.dates.specs.declared.DateTime.{DateTime}
use Rattle.dates.specs.Calendar.{leap, february, month_days}
use Rattle.dates.specs.Seconds.{sum, day_number, tomorrow, days_later, on_first_day}
use Rattle.dates.proofs.Days.{month_in, by_february, whole_year}
use Rattle.dates.proofs.Dates.{Date}

-- every month has a day
some_day_in : (f : ℕ) → ((k : ℕ) → k < 12 → eqb (month_in f (suc k)) 0 ≡ false) → (m : ℕ) → 1 ≤ m → m ≤ 12 → 1 ≤ month_in f m
some_day_in f h zero l g = absurd (omega arith)
some_day_in f h (suc m) l g = let n = eqb-false (month_in f (suc m)) 0 (h m (omega arith)) in omega (arith, n)

month_some : (y m : ℕ) → 1 ≤ m → m ≤ 12 → 1 ≤ month_days y m
unfolding february lowest_from
month_some y m l g =
    test (leap y)
    (λ e. rw (by_february y 29 (rw e refl)) (some_day_in 29 (upto (λ k. eqb (month_in 29 (suc k)) 0) 12 refl) m l g))
    (λ e. rw (by_february y 28 (rw e refl)) (some_day_in 28 (upto (λ k. eqb (month_in 28 (suc k)) 0) 12 refl) m l g))

-- the date u has the number n and the time of day of t
pub record Day (n : ℕ) (t u : DateTime) : Type 0 where
  pub number : day_number u ≡ n
  pub dated : Date u
  pub hours : u.hour ≡ t.hour
  pub minutes : u.minute ≡ t.minute
  pub seconds : u.second ≡ t.second

pub later : (t : DateTime) → Date t → Day (suc (day_number t)) t (tomorrow t)
unfolding tomorrow day_number sum month_days
later t d =
    let y = t.year in
    let m = t.month in
    test (ltb t.day (month_days y m)) (λ e. rw e (record {
      number = omega (arith, d.some_day);
      dated = record { some_month = d.some_month; last_month = d.last_month; some_day = omega arith; last_day = ltb-true _ _ e };
      hours = refl;
      minutes = refl;
      seconds = refl;
    })) λ e.
    test (ltb m 12) (λ f. rw (e, f) (record {
      number = omega (arith, d.some_day, d.last_day, ltb-false t.day (month_days y m) e);
      dated = record { some_month = omega arith; last_month = ltb-true m 12 f; some_day = omega arith; last_day = month_some y (suc m) (omega arith) (ltb-true m 12 f) };
      hours = refl;
      minutes = refl;
      seconds = refl;
    })) λ f.
    rw (e, f) (record {
      number = omega (arith, d.some_day, d.last_day, ltb-false t.day (month_days y m) e, whole_year y (suc m) (omega (arith, ltb-false m 12 f)));
      dated = record { some_month = omega arith; last_month = omega arith; some_day = omega arith; last_day = omega arith };
      hours = refl;
      minutes = refl;
      seconds = refl;
    })

-- n days after 1 January of the year 0
pub reached : (n : ℕ) (t : DateTime) → Day n t (days_later n (on_first_day t))
unfolding days_later on_first_day day_number sum month_days
reached zero t =
    record {
      number = refl;
      dated = record { some_month = omega arith; last_month = omega arith; some_day = omega arith; last_day = omega arith };
      hours = refl;
      minutes = refl;
      seconds = refl;
    }
reached (suc n) t =
    let r = reached n t in
    let l = later (days_later n (on_first_day t)) r.dated in
    record {
      number = l.number ∙ ap suc r.number;
      dated = l.dated;
      hours = l.hours ∙ r.hours;
      minutes = l.minutes ∙ r.minutes;
      seconds = l.seconds ∙ r.seconds;
    }
