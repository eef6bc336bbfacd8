-- The seven octets of a time in a value's node (FORMATS, "Values").
-- Assumes nothing.
use Rattle.std.specs.Prelude.{List, [], ◌∷◌, ◌++◌, ℕ, ◌+◌, get_or}
use Rattle.octets.specs.Numbers.{two, octets_of}
use Rattle.dates.specs.declared.DateTime.{DateTime}

-- the year in two octets, then one each
unfoldable pub time_octets : DateTime → List ℕ
time_octets t = octets_of t.year ++ (t.month ∷ t.day ∷ t.hour ∷ t.minute ∷ t.second ∷ [])

-- the time whose octets begin at p
unfoldable pub time_at : List ℕ → ℕ → DateTime
time_at s p =
    record {
      year = two s p;
      month = get_or s (p + 2) 0;
      day = get_or s (p + 3) 0;
      hour = get_or s (p + 4) 0;
      minute = get_or s (p + 5) 0;
      second = get_or s (p + 6) 0;
    }
