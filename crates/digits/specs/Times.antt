-- Times as code reads them: octets that are not both digits are read as 100, which is in range nowhere (FORMATS, "Messages").
-- Assumes nothing.
use Rattle.std.specs.Prelude.{Bool, ◌&&◌, List, ℕ, ◌+◌, ◌*◌, ◌%◌, ltb, leb, eqb, length, get_or}
use Rattle.octets.specs.Tests.{if}
use Rattle.dates.specs.declared.DateTime.{DateTime}
use Rattle.dates.specs.declared.TimeKind.{TimeKind}
use Rattle.dates.specs.declared.TimeKind.TheVariants.{Utc, Generalized}
use Rattle.dates.specs.Calendar.{years}
use Rattle.x690.specs.Time.{digits_at, time_size}

unfoldable pub is_digit : ℕ → Bool
is_digit x = leb 0x30 x && ltb x 0x3A

-- the number that two octets at p spell
unfoldable pub pair_at : List ℕ → ℕ → ℕ
pair_at c p = if (is_digit (get_or c p 0) && is_digit (get_or c (p + 1) 0)) (digits_at c p) λ _. 100

-- the octets of a year
unfoldable pub year_size : TimeKind → ℕ
year_size Utc = 2
year_size Generalized = 4

unfoldable pub year_in : TimeKind → List ℕ → ℕ
year_in Utc c = pair_at c 0
year_in Generalized c = if (eqb (pair_at c 2) 100) 10000 λ _. pair_at c 0 * 100 + pair_at c 2

-- a year, and what the octets from p on spell behind it
unfoldable pub time_from : ℕ → List ℕ → ℕ → DateTime
time_from y c p =
    record { year = y; month = pair_at c p; day = pair_at c (p + 2); hour = pair_at c (p + 4); minute = pair_at c (p + 6); second = pair_at c (p + 8) }

abbrev pub time_in : TimeKind → List ℕ → DateTime
time_in k c = time_from (year_in k c) c (year_size k)

-- the same of contents as long as those of a time; of others a time in range nowhere
abbrev pub no_time : DateTime
no_time = record { year = 0; month = 0; day = 0; hour = 0; minute = 0; second = 0 }

unfoldable pub time_read : TimeKind → List ℕ → DateTime
time_read k c = if (eqb (length c) (time_size k)) (time_in k c) λ _. no_time

-- a time with the last digits of its year, as many as its kind has
unfoldable pub last_digits : TimeKind → DateTime → DateTime
last_digits k t =
    record { year = t.year % years k; month = t.month; day = t.day; hour = t.hour; minute = t.minute; second = t.second }
