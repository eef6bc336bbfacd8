-- The century of a year of two digits (FORMATS, "Centuries"). A link version has a window of a hundred years, and all is said of its first year f.
-- Assumes nothing.
use Rattle.std.specs.Prelude.{Bool, true, ◌&&◌, ◌||◌, ◌≡◌, ℕ, ◌+◌, ◌-◌, ◌%◌, eqb, ltb, leb}
use Rattle.octets.specs.Tests.{if}
use Rattle.dates.specs.declared.DateTime.{DateTime}

-- the link versions in service
unfoldable pub is_version : ℕ → Bool
is_version v = eqb v 1 || eqb v 2

-- the first year of the window, of version 1 and of version 2
unfoldable pub first_year : ℕ → ℕ
first_year v = if (eqb v 1) 1970 λ _. 1950

-- the window is the hundred years from f on
unfoldable pub in_window : ℕ → ℕ → Bool
in_window f y = leb f y && ltb y (f + 100)

-- the same time of another year
unfoldable pub in_year : ℕ → DateTime → DateTime
in_year y t =
    record {
      year = y;
      month = t.month;
      day = t.day;
      hour = t.hour;
      minute = t.minute;
      second = t.second;
    }

-- a UTCTime has the last two digits of the year
unfoldable pub to_utc : DateTime → DateTime
to_utc g = in_year (g.year % 100) g

-- by the window from f on, u is the UTCTime of the GeneralizedTime g
pub record Shortens (f : ℕ) (u g : DateTime) : Type 0 where
  pub inside : in_window f g.year ≡ true
  pub digits : u ≡ to_utc g

-- the first year from f on that ends as y does
unfoldable pub window_year : ℕ → ℕ → ℕ
window_year f y = f + (y + 100 - f % 100) % 100

-- a UTCTime as a GeneralizedTime
unfoldable pub to_generalized : ℕ → DateTime → DateTime
to_generalized f u = in_year (window_year f u.year) u
