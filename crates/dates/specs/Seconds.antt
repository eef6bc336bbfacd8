-- Days and seconds from 1 January of the year 0, and the order of times (FORMATS, "Times").
-- Assumes nothing.
use Rattle.std.specs.Prelude.{List, [], ◌∷◌, ℕ, zero, suc, ◌+◌, ◌-◌, ◌*◌, ltb, ℤ, pos, negsuc, ◌-ℤ◌}
use Rattle.octets.specs.Tests.{if}
use Rattle.dates.specs.declared.DateTime.{DateTime}
use Rattle.dates.specs.Calendar.{month_days}

-- f at the numbers below n, added up
unfoldable pub sum : (ℕ → ℕ) → ℕ → ℕ
sum f zero = 0
sum f (suc n) = sum f n + f n

-- the days of a year are those of its months
unfoldable pub year_days : ℕ → ℕ
year_days y = sum (month_days y) 13

-- the days of the years before, of the months before, and of the days before
unfoldable pub day_number : DateTime → ℕ
day_number t = sum year_days t.year + sum (month_days t.year) t.month + (t.day - 1)

-- every day has 24 hours, every hour 60 minutes, every minute 60 seconds
unfoldable pub seconds_of : DateTime → ℕ
seconds_of t = ((day_number t * 24 + t.hour) * 60 + t.minute) * 60 + t.second

-- the seconds from the first time to the second
unfoldable pub elapsed : DateTime → DateTime → ℤ
elapsed a b = pos (seconds_of b) -ℤ pos (seconds_of a)

-- -1 for before, 0 for the same, 1 for after: the first number in which two lists differ decides
unfoldable pub ordered : List ℕ → List ℕ → ℤ
ordered [] ys = pos 0
ordered (x ∷ xs) [] = pos 0
ordered (x ∷ xs) (y ∷ ys) = if (ltb x y) (negsuc 0) λ _. if (ltb y x) (pos 1) λ _. ordered xs ys

-- by the year, then by the month, and so on
unfoldable pub fields : DateTime → List ℕ
fields t = t.year ∷ t.month ∷ t.day ∷ t.hour ∷ t.minute ∷ t.second ∷ []

unfoldable pub order : DateTime → DateTime → ℤ
order a b = ordered (fields a) (fields b)

-- a time of the day on 1 January of the year 0
unfoldable pub on_first_day : DateTime → DateTime
on_first_day t = record { year = 0; month = 1; day = 1; hour = t.hour; minute = t.minute; second = t.second }

-- at the same time of the next day
unfoldable pub tomorrow : DateTime → DateTime
tomorrow t =
    if (ltb t.day (month_days t.year t.month)) (on t.year t.month (suc t.day)) λ _.
    if (ltb t.month 12) (on t.year (suc t.month) 1) λ _.
    on (suc t.year) 1 1
  where
    on : ℕ → ℕ → ℕ → DateTime
    on y m d = record { year = y; month = m; day = d; hour = t.hour; minute = t.minute; second = t.second }

-- n days later
unfoldable pub days_later : ℕ → DateTime → DateTime
days_later zero t = t
days_later (suc n) t = tomorrow (days_later n t)
