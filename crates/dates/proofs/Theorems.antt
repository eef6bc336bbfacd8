-- What is proved of the calendar, of the numbers of days and seconds, and of the order of times (FORMATS, "Times").
-- Assumes nothing.
use mathlib.Core.Bool.{true}
use mathlib.Core.List.{[], ◌∷◌}
use mathlib.Core.Path.{◌≡◌, refl, ◌∙◌}
use native.Mathlib.Omega.{arith}
use Prim.Native.Nat.{ℕ, suc, ◌+◌, ◌*◌, ◌^◌, ◌/◌, ◌%◌, ◌<◌}
use lib.Dec.{eqb}
use lib.IntN.{pos, neg_ℤ, nat_abs, ◌+ℤ◌}
use borrow.Author.Tests.{eqb-true, eqb-false, ne_eqb}
use Rattle.octets.specs.Tests.{if}
use Rattle.octets.proofs.Tests.{test}
use Rattle.dates.specs.declared.DateTime.{DateTime}
use Rattle.dates.specs.declared.TimeKind.TheVariants.{Generalized}
use Rattle.dates.specs.Calendar.{leap, month_days, years, is_date, is_time_of_day, in_range}
use Rattle.dates.specs.Seconds.{sum, year_days, day_number, seconds_of, elapsed, ordered, fields, order, on_first_day, tomorrow, days_later}
use Rattle.dates.proofs.Cases.{time}
use Rattle.dates.proofs.Days as days
use Rattle.dates.proofs.Days.{years_closed}
use Rattle.dates.proofs.Differences.{turned, added, difference_below}
use Rattle.dates.proofs.Ordered.{tied, digits, ordered_self}
use Rattle.dates.proofs.Dates.{date, is_date_lem, clock, ranged, day_below, days_ordered, same_fields}
use Rattle.dates.proofs.Tomorrow.{later, reached}

-- Of the years of two digits each multiple of four has a 29 February, 00 too.
pub two_digit_leap : (y : ℕ) → y < 100 → leap y ≡ eqb (y % 4) 0
unfolding leap
two_digit_leap y h =
    test (eqb y 0) (λ e. rw (eqb-true y 0 e) refl) λ e.
    test (eqb (y % 4) 0) (λ f. rw (f, ne_eqb (y % 100) 0 (λ g. eqb-false y 0 e (omega arith))) refl) λ f. rw f refl

-- A leap year has 366 days, any other 365.
pub year_days_lem : (y : ℕ) → year_days y ≡ if (leap y) 366 λ _. 365
year_days_lem = days.year_days_lem

-- 400 years have 146,097 days, wherever they begin.
pub days_of_400_years : (y : ℕ) → sum year_days (y + 400) ≡ sum year_days y + 146097
days_of_400_years y =
    let by_4 : (y + 400 + 3) / 4 ≡ (y + 3) / 4 + 100 = omega arith in
    let by_100 : (y + 400 + 99) / 100 ≡ (y + 99) / 100 + 4 = omega arith in
    let by_400 : (y + 400 + 399) / 400 ≡ (y + 399) / 400 + 1 = omega arith in
    omega (arith, years_closed y, rw (by_4, by_100, by_400) at (years_closed (y + 400)))

-- The day after a date is a date, the next in number, and 86,400 seconds later.
pub a_day_later : (t : DateTime) → is_date t ≡ true
    → (is_date (tomorrow t) ≡ true) × (day_number (tomorrow t) ≡ suc (day_number t)) × (seconds_of (tomorrow t) ≡ seconds_of t + 86400)
unfolding seconds_of
a_day_later t e =
    let l = later t (date t e) in
    (is_date_lem (tomorrow t) l.dated, l.number, omega (arith, l.number, l.hours, l.minutes, l.seconds))

-- The date that is n days after 1 January of the year 0 has the number n.
pub day_of_date : (n : ℕ) (t : DateTime) → day_number (days_later n (on_first_day t)) ≡ n
day_of_date n t = (reached n t).number

-- Every date is so many days after it as its number says: no other date has that number.
pub date_of_day : (t : DateTime) → is_date t ≡ true → days_later (day_number t) (on_first_day t) ≡ t
unfolding order fields
date_of_day t e =
    let r = reached (day_number t) t in
    let u = days_later (day_number t) (on_first_day t) in
    let xs = u.hour ∷ u.minute ∷ u.second ∷ [] in
    let ys = t.hour ∷ t.minute ∷ t.second ∷ [] in
    same_fields u t (days_ordered u t xs ys r.dated (date t e) ∙ tied (day_number u) (day_number t) xs ys r.number ∙ rw (r.hours, r.minutes, r.seconds) (ordered_self ys))

-- Times are in the order of their seconds.
pub order_of_seconds : (a b : DateTime) → is_date a ≡ true → is_time_of_day a ≡ true → is_date b ≡ true → is_time_of_day b ≡ true
    → order a b ≡ ordered (seconds_of a ∷ []) (seconds_of b ∷ [])
unfolding order fields seconds_of
order_of_seconds a b e f g h =
    let x = day_number a in
    let y = day_number b in
    let s = clock a f in
    let t = clock b h in
    days_ordered a b (a.hour ∷ a.minute ∷ a.second ∷ []) (b.hour ∷ b.minute ∷ b.second ∷ []) (date a e) (date b g)
    ∙ digits 24 x y a.hour b.hour (a.minute ∷ a.second ∷ []) (b.minute ∷ b.second ∷ []) s.0 t.0
    ∙ digits 60 (x * 24 + a.hour) (y * 24 + b.hour) a.minute b.minute (a.second ∷ []) (b.second ∷ []) s.1 t.1
    ∙ digits 60 ((x * 24 + a.hour) * 60 + a.minute) ((y * 24 + b.hour) * 60 + b.minute) a.second b.second [] [] s.2 t.2

-- Neither of two times is before the other exactly if they are the same.
pub same_time : (a b : DateTime) → (order a b ≡ pos 0 → a ≡ b) × (a ≡ b → order a b ≡ pos 0)
unfolding order
same_time a b = (same_fields a b, λ e. rw e (ordered_self (fields b)))

-- Two times of the same seconds are the same.
pub same_seconds : (a b : DateTime) → is_date a ≡ true → is_time_of_day a ≡ true → is_date b ≡ true → is_time_of_day b ≡ true → seconds_of a ≡ seconds_of b → a ≡ b
same_seconds a b e f g h q = (same_time a b).0 (order_of_seconds a b e f g h ∙ rw q (ordered_self (seconds_of b ∷ [])))

-- Seconds add up, over a time in between and beyond.
pub seconds_add_up : (a b c : DateTime) → elapsed a b +ℤ elapsed b c ≡ elapsed a c
unfolding elapsed
seconds_add_up a b c = added (pos (seconds_of c)) (pos (seconds_of b)) (pos (seconds_of a))

-- The seconds back are the negative of the seconds there.
pub seconds_turned : (a b : DateTime) → elapsed b a ≡ neg_ℤ (elapsed a b)
unfolding elapsed
seconds_turned a b = turned (pos (seconds_of b)) (pos (seconds_of a))

-- The years of a GeneralizedTime have 315,569,520,000 seconds.
pub seconds_most : (t : DateTime) → in_range Generalized t ≡ true → seconds_of t < 315569520000
unfolding seconds_of years
seconds_most t e =
    let r = ranged Generalized t e in
    let c = clock t r.2 in
    omega (arith, day_below t 10000 (date t r.1) r.0, years_closed 10000, c.0, c.1, c.2)

-- From any of them to any it is less than 2^39 seconds, there or back: 40 bits with a sign.
pub seconds_fit : (a b : DateTime) → in_range Generalized a ≡ true → in_range Generalized b ≡ true → nat_abs (elapsed a b) < 2 ^ 39
unfolding elapsed
seconds_fit a b e f = omega (arith, difference_below (seconds_of b) (seconds_of a) {k = 315569520000} (seconds_most b f) (seconds_most a e))

new_year : (y : ℕ) → seconds_of (time y 1 1 0 0 0) ≡ sum year_days y * 86400
unfolding seconds_of day_number sum month_days
new_year y = omega arith

-- From 1970 to 2000 it is 946,684,800 seconds.
pub thirty_years : elapsed (time 1970 1 1 0 0 0) (time 2000 1 1 0 0 0) ≡ pos 946684800
unfolding elapsed
thirty_years =
    let from : sum year_days 1970 ≡ 719528 = omega (arith, years_closed 1970) in
    let to : sum year_days 2000 ≡ 730485 = omega (arith, years_closed 2000) in
    rw (new_year 1970, new_year 2000, from, to) refl
