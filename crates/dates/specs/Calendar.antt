-- Which dates and times of day there are, by Gregory's calendar (FORMATS, "Times").
-- Assumes nothing.
use Rattle.std.specs.Prelude.{Bool, not, ◌&&◌, ◌||◌, [], ◌∷◌, ℕ, ◌%◌, eqb, ltb, leb, get_or}
use Rattle.octets.specs.Tests.{if}
use Rattle.dates.specs.declared.DateTime.{DateTime}
use Rattle.dates.specs.declared.TimeKind.{TimeKind}
use Rattle.dates.specs.declared.TimeKind.TheVariants.{Utc, Generalized}

-- each multiple of four is a leap year; of the multiples of a hundred only those of four hundred
unfoldable pub leap : ℕ → Bool
leap y = eqb (y % 4) 0 && (not (eqb (y % 100) 0) || eqb (y % 400) 0)

unfoldable pub february : ℕ → ℕ
february y = if (leap y) 29 λ _. 28

-- the days of a month of a year; there is no month 0 and none above 12
unfoldable pub month_days : ℕ → ℕ → ℕ
month_days y m = get_or (0 ∷ 31 ∷ february y ∷ 31 ∷ 30 ∷ 31 ∷ 30 ∷ 31 ∷ 31 ∷ 30 ∷ 31 ∷ 30 ∷ 31 ∷ []) m 0

-- the years of a kind, from 0 on
unfoldable pub years : TimeKind → ℕ
years Utc = 100
years Generalized = 10000

unfoldable pub is_date : DateTime → Bool
is_date t = leb 1 t.month && leb t.month 12 && leb 1 t.day && leb t.day (month_days t.year t.month)

unfoldable pub is_time_of_day : DateTime → Bool
is_time_of_day t = ltb t.hour 24 && ltb t.minute 60 && ltb t.second 60

-- a time of a kind
unfoldable pub in_range : TimeKind → DateTime → Bool
in_range k t = ltb t.year (years k) && is_date t && is_time_of_day t
