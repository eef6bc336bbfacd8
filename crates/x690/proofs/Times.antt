-- Laws of the contents octets of times: the digits of a time are read back, and what is taken for a time is its digits (FORMATS, "Messages").
-- Assumes nothing.
use mathlib.Core.Bool.{Bool, true, false, ◌&&◌}
use mathlib.Core.List.{List, [], ◌∷◌}
use mathlib.Core.Path.{◌≡◌, refl}
use native.Mathlib.Omega.{arith}
use Prim.Native.Char.{code}
use Prim.Native.Nat.{ℕ, ◌+◌, ◌-◌, ◌*◌, ◌/◌, ◌%◌, ◌<◌}
use Prim.Native.String.{String, [] as String·[], ◌∷◌ as String·cons}
use lib.ListN.{length}
use Rattle.octets.specs.Lists.{any, all, same}
use Rattle.octets.specs.Permutations.{AllOctets, every_nil, every_cons}
use Rattle.octets.proofs.Lists.{both, same_refl, same_true}
use Rattle.octets.proofs.Permutations.{every_append}
use Rattle.dates.specs.declared.DateTime.{DateTime}
use Rattle.dates.specs.declared.TimeKind.{TimeKind}
use Rattle.dates.specs.declared.TimeKind.TheVariants.{Utc, Generalized}
use Rattle.dates.specs.Calendar.{leap, february, month_days, years, is_date, is_time_of_day, in_range}
use Rattle.dates.proofs.Ranges.{in_range_lem}
use Rattle.x690.specs.Time.{two_digits, year_digits, later_digits, time_digits, time_size, spelled, time_of, is_time}

-- the octets of a text
unfoldable octets : String → List ℕ
octets String·[] = []
octets (String·cons c s) = code c ∷ octets s

unfoldable is : TimeKind → String → Bool
is k s = is_time k (octets s)

-- texts on both sides of each border
cases_told :
    all (is Utc) ("991231235959Z" ∷ "000101000000Z" ∷ "000229000000Z" ∷ []) ≡ true
    × all (is Generalized) ("20000101000000Z" ∷ "00000229000000Z" ∷ "99991231235959Z" ∷ []) ≡ true
    -- no capital Z, or one that does not end it; no seconds, or a part of one; another zone; no digit
    × any (is Utc) ("991231235959z" ∷ "991231235959" ∷ "9912312359590" ∷ "991231235959Z0" ∷ []) ≡ false
    × any (is Utc) ("9912312359Z" ∷ "991231235959.5Z" ∷ "991231235959+0100" ∷ "99123123594:Z" ∷ "9912312359/9Z" ∷ []) ≡ false
    × any (is Generalized) ("20000101000000z" ∷ "20000101000000" ∷ "200001010000000" ∷ "20000101000000Z0" ∷ []) ≡ false
    × any (is Generalized) ("200001010000Z" ∷ "20000101000000.5Z" ∷ "20000101000000+0100" ∷ "1:990101000000Z" ∷ "2/000101000000Z" ∷ []) ≡ false
    -- the year of the other kind, or one digit more
    × any (is Utc) ("19991231235959Z" ∷ "1000101000000Z" ∷ "" ∷ []) ≡ false
    × any (is Generalized) ("000101000000Z" ∷ "100000101000000Z" ∷ "" ∷ []) ≡ false
    -- no such month, day, hour, minute, second
    × any (is Utc) ("990001000000Z" ∷ "991301000000Z" ∷ "990100000000Z" ∷ "990229000000Z" ∷ "990431000000Z" ∷ []) ≡ false
    × any (is Utc) ("991231240000Z" ∷ "991231236000Z" ∷ "991231235960Z" ∷ []) ≡ false
    × any (is Generalized) ("19000229000000Z" ∷ "20000001000000Z" ∷ "20000101240000Z" ∷ []) ≡ false
unfolding any all octets is leap february month_days years is_date is_time_of_day in_range same two_digits year_digits later_digits time_digits spelled time_of is_time
cases_told = (refl, refl, refl, refl, refl, refl, refl, refl, refl, refl, refl)

-- the digits of a time are read back as it, whatever its fields are
two_back : (n : ℕ) → (0x30 + n / 10 - 0x30) * 10 + (0x30 + n % 10 - 0x30) ≡ n
two_back n = omega arith

four_back : (n : ℕ) → n / 100 * 100 + n % 100 ≡ n
four_back n = omega arith

pub time_read_back : (k : TimeKind) (t : DateTime) → time_of k (time_digits k t) ≡ t
unfolding time_of spelled time_digits year_digits later_digits two_digits
time_read_back Utc t = simp two_back
time_read_back Generalized t = simp (two_back, four_back)

and_true : (b : Bool) → (b && true) ≡ b
and_true true = refl
and_true false = refl

-- and are contents of a time if it is in range
pub time_complete : (k : TimeKind) (t : DateTime) → is_time k (time_digits k t) ≡ in_range k t
unfolding is_time
time_complete k t = rw (time_read_back k t, same_refl (time_digits k t)) (and_true (in_range k t))

-- contents of a time are its digits, and it is in range
pub time_sound : (k : TimeKind) (c : List ℕ) → is_time k c ≡ true → (in_range k (time_of k c) ≡ true) × (c ≡ time_digits k (time_of k c))
unfolding is_time
time_sound k c e =
    let (r, s) = both (in_range k (time_of k c)) (same c (time_digits k (time_of k c))) e in
    (r, same_true c (time_digits k (time_of k c)) s)

pub length_time : (k : TimeKind) (t : DateTime) → length (time_digits k t) ≡ time_size k
unfolding time_size time_digits year_digits later_digits two_digits
length_time Utc t = refl
length_time Generalized t = refl

two_octets : (n : ℕ) → n < 100 → AllOctets (two_digits n)
unfolding two_digits
two_octets n h = every_cons {x = 0x30 + n / 10} (omega arith) (every_cons {x = 0x30 + n % 10} (omega arith) every_nil)

year_octets : (k : TimeKind) (y : ℕ) → y < years k → AllOctets (year_digits k y)
unfolding years year_digits
year_octets Utc y h = two_octets y h
year_octets Generalized y h = every_append (two_octets (y / 100) (omega arith)) (two_octets (y % 100) (omega arith))

-- the digits of a time in range are octets
pub time_octets_lem : (k : TimeKind) (t : DateTime) → in_range k t ≡ true → AllOctets (time_digits k t)
unfolding time_digits later_digits two_digits
time_octets_lem k t e =
    let (y, m, d, h, n, s) = in_range_lem k t e in
    every_append (year_octets k t.year y)
    (every_append (two_octets t.month (omega arith))
    (every_append (two_octets t.day (omega arith))
    (every_append (two_octets t.hour (omega arith))
    (every_append (two_octets t.minute (omega arith))
    (every_append (two_octets t.second (omega arith)) (every_cons {x = 0x5A} (omega arith) every_nil))))))
