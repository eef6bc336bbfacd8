-- Contents octets of the times: digits and a capital Z, YYMMDDHHMMSSZ of a UTCTime and YYYYMMDDHHMMSSZ of a GeneralizedTime (FORMATS, "Messages").
-- Assumes nothing.
use Rattle.std.specs.Prelude.{Bool, ◌&&◌, List, [], ◌∷◌, ◌++◌, ℕ, ◌+◌, ◌-◌, ◌*◌, ◌/◌, ◌%◌, get_or}
use Rattle.octets.specs.Lists.{same}
use Rattle.dates.specs.declared.DateTime.{DateTime}
use Rattle.dates.specs.declared.TimeKind.{TimeKind}
use Rattle.dates.specs.declared.TimeKind.TheVariants.{Utc, Generalized}
use Rattle.dates.specs.Calendar.{in_range}

-- a number below 100 in two digits
unfoldable pub two_digits : ℕ → List ℕ
two_digits n = (0x30 + n / 10) ∷ (0x30 + n % 10) ∷ []

-- the year in two digits or in four
unfoldable pub year_digits : TimeKind → ℕ → List ℕ
year_digits Utc y = two_digits y
year_digits Generalized y = two_digits (y / 100) ++ two_digits (y % 100)

-- month, day, hour, minute, second and Z
unfoldable pub later_digits : DateTime → List ℕ
later_digits t = two_digits t.month ++ two_digits t.day ++ two_digits t.hour ++ two_digits t.minute ++ two_digits t.second ++ (0x5A ∷ [])

-- the one form of a time
unfoldable pub time_digits : TimeKind → DateTime → List ℕ
time_digits k t = year_digits k t.year ++ later_digits t

-- how many octets these are
unfoldable pub time_size : TimeKind → ℕ
time_size Utc = 13
time_size Generalized = 15

-- the number that two digits at p spell
abbrev pub digits_at : List ℕ → ℕ → ℕ
digits_at c p = (get_or c p 0 - 0x30) * 10 + (get_or c (p + 1) 0 - 0x30)

-- a year, and what the digits from p on spell behind it
unfoldable pub spelled : ℕ → List ℕ → ℕ → DateTime
spelled y c p =
    record {
      year = y;
      month = digits_at c p;
      day = digits_at c (p + 2);
      hour = digits_at c (p + 4);
      minute = digits_at c (p + 6);
      second = digits_at c (p + 8);
    }

-- the time that contents spell, if they are those of a time
unfoldable pub time_of : TimeKind → List ℕ → DateTime
time_of Utc c = spelled (digits_at c 0) c 2
time_of Generalized c = spelled (digits_at c 0 * 100 + digits_at c 2) c 4

-- contents are those of a time in range: it is in range, and they are its digits
unfoldable pub is_time : TimeKind → List ℕ → Bool
is_time k c = in_range k (time_of k c) && same c (time_digits k (time_of k c))
