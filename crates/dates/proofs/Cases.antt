-- Dates, times and their octets, worked out by hand; each case is computed.
-- Assumes nothing.
use mathlib.Core.Bool.{true, false}
use mathlib.Core.List.{[], ◌∷◌}
use mathlib.Core.Path.{◌≡◌, refl}
use Prim.Native.Nat.{ℕ}
use lib.IntN.{pos, negsuc}
use Rattle.dates.specs.declared.DateTime.{DateTime}
use Rattle.dates.specs.declared.TimeKind.TheVariants.{Utc, Generalized}
use Rattle.dates.specs.Calendar.{leap, february, month_days, years, is_date, is_time_of_day, in_range}
use Rattle.dates.specs.Seconds.{sum, year_days, day_number, seconds_of, elapsed, ordered, fields, order, tomorrow}
use Rattle.dates.specs.Century.{is_version, first_year, in_window, in_year, to_utc, window_year, to_generalized}
use Rattle.dates.specs.Own.{time_octets, time_at}

abbrev pub time : ℕ → ℕ → ℕ → ℕ → ℕ → ℕ → DateTime
time y m d h n s = record { year = y; month = m; day = d; hour = h; minute = n; second = s }

-- which years have a 29 February
pub leap_cases : (leap 0 ≡ true) × (leap 1900 ≡ false) × (leap 1996 ≡ true) × (leap 1999 ≡ false) × (leap 2000 ≡ true) × (leap 2100 ≡ false)
unfolding leap
leap_cases = (refl, refl, refl, refl, refl, refl)

-- what is a time of its kind, and what is none
pub range_cases :
    (in_range Generalized (time 0 1 1 0 0 0) ≡ true)
    × (in_range Generalized (time 9999 12 31 23 59 59) ≡ true)
    × (in_range Generalized (time 10000 1 1 0 0 0) ≡ false)
    × (in_range Utc (time 99 12 31 23 59 59) ≡ true)
    × (in_range Utc (time 100 1 1 0 0 0) ≡ false)
    -- 29 February
    × (in_range Utc (time 0 2 29 0 0 0) ≡ true)
    × (in_range Generalized (time 2000 2 29 0 0 0) ≡ true)
    × (in_range Generalized (time 1900 2 29 0 0 0) ≡ false)
    × (in_range Generalized (time 1999 2 29 0 0 0) ≡ false)
    × (in_range Generalized (time 2000 2 30 0 0 0) ≡ false)
    -- months and days from 1 on
    × (in_range Generalized (time 2026 0 1 0 0 0) ≡ false)
    × (in_range Generalized (time 2026 13 1 0 0 0) ≡ false)
    × (in_range Generalized (time 2026 1 0 0 0 0) ≡ false)
    × (in_range Generalized (time 2026 4 31 0 0 0) ≡ false)
    -- no hour 24, no minute 60, no second 60
    × (in_range Generalized (time 2026 1 1 24 0 0) ≡ false)
    × (in_range Generalized (time 2026 1 1 0 60 0) ≡ false)
    × (in_range Generalized (time 2016 12 31 23 59 60) ≡ false)
unfolding leap february month_days years is_date is_time_of_day in_range
range_cases = (refl, refl, refl, refl, refl, refl, refl, refl, refl, refl, refl, refl, refl, refl, refl, refl, refl)

-- days, seconds, order
pub second_cases :
    (day_number (time 0 1 1 0 0 0) ≡ 0)
    × (day_number (time 0 3 1 0 0 0) ≡ 60)
    × (day_number (time 5 1 1 0 0 0) ≡ 1827)
    × (elapsed (time 0 12 31 23 59 58) (time 1 1 1 0 0 3) ≡ pos 5)
    × (elapsed (time 1 1 1 0 0 3) (time 0 12 31 23 59 58) ≡ negsuc 4)
    × (order (time 1999 12 31 23 59 59) (time 2000 1 1 0 0 0) ≡ negsuc 0)
    × (order (time 2000 1 2 0 0 0) (time 2000 1 1 23 0 0) ≡ pos 1)
    × (order (time 2000 1 1 0 0 6) (time 2000 1 1 0 0 7) ≡ negsuc 0)
    × (order (time 2000 1 1 0 0 7) (time 2000 1 1 0 0 7) ≡ pos 0)
    × (tomorrow (time 2000 2 29 5 6 7) ≡ time 2000 3 1 5 6 7)
    × (tomorrow (time 1999 12 31 5 6 7) ≡ time 2000 1 1 5 6 7)
unfolding leap february month_days sum year_days day_number seconds_of elapsed ordered fields order tomorrow
second_cases = (refl, refl, refl, refl, refl, refl, refl, refl, refl, refl, refl)

-- the octets of a node
pub octet_cases :
    (time_octets (time 2026 11 16 17 50 3) ≡ 0x07 ∷ 0xEA ∷ 11 ∷ 16 ∷ 17 ∷ 50 ∷ 3 ∷ [])
    × (time_at (0x56 ∷ 0x07 ∷ 0xEA ∷ 11 ∷ 16 ∷ 17 ∷ 50 ∷ 3 ∷ []) 1 ≡ time 2026 11 16 17 50 3)
unfolding time_octets time_at
octet_cases = (refl, refl)

-- link versions, their windows, and times of both kinds by them
pub century_cases :
    (is_version 0 ≡ false)
    × (is_version 1 ≡ true)
    × (is_version 2 ≡ true)
    × (is_version 3 ≡ false)
    × (in_window (first_year 1) 1969 ≡ false)
    × (in_window (first_year 1) 1970 ≡ true)
    × (in_window (first_year 1) 2069 ≡ true)
    × (in_window (first_year 1) 2070 ≡ false)
    × (in_window (first_year 2) 1949 ≡ false)
    × (in_window (first_year 2) 1950 ≡ true)
    × (in_window (first_year 2) 2049 ≡ true)
    × (in_window (first_year 2) 2050 ≡ false)
    × (to_generalized (first_year 1) (time 69 12 31 23 59 58) ≡ time 2069 12 31 23 59 58)
    × (to_generalized (first_year 1) (time 70 1 2 3 4 5) ≡ time 1970 1 2 3 4 5)
    × (to_generalized (first_year 2) (time 49 1 2 3 4 5) ≡ time 2049 1 2 3 4 5)
    × (to_generalized (first_year 2) (time 50 1 2 3 4 5) ≡ time 1950 1 2 3 4 5)
    × (to_generalized (first_year 2) (time 0 2 29 3 4 5) ≡ time 2000 2 29 3 4 5)
    × (to_utc (time 1996 2 29 3 4 5) ≡ time 96 2 29 3 4 5)
unfolding is_version first_year in_window in_year to_utc window_year to_generalized
century_cases = (refl, refl, refl, refl, refl, refl, refl, refl, refl, refl, refl, refl, refl, refl, refl, refl, refl, refl)
