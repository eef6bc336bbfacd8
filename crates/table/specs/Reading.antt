-- What octets stand for as records: the record at a place, where a shaped one ends, and where all records begin (FORMATS, "Tables" and "Limits").
-- Reads are total: what lies behind the last octet counts as 0.
-- Assumes nothing.
use Rattle.std.specs.Prelude.{Bool, true, false, not, List, [], ◌∷◌, ◌++◌, ℕ, zero, suc, ◌+◌, ◌*◌, leb, eqb, length, get_or}
use Rattle.octets.specs.Tests.{if}
use Rattle.octets.specs.Lists.{all}
use Rattle.octets.specs.Numbers.{two}
use Rattle.dates.specs.declared.TimeKind.TheVariants.{Utc, Generalized}
use Rattle.table.specs.Syntax.{Tag, Member, Boolean, Integer, BitString, OctetString, Null, Enumerated, Time, Body, Plain, Sequence, Set, SequenceOf, SetOf, Choice, Record, Table}
use Rattle.table.specs.Octets.{rising}

-- n tags from p on
unfoldable pub tags_at : List ℕ → ℕ → ℕ → List Tag
tags_at b p zero = []
tags_at b p (suc n) = record { class = get_or b p 0; number = two b (p + 1) } ∷ tags_at b (p + 3) n

-- n numbers of two octets from p on
unfoldable pub numbers_at : List ℕ → ℕ → ℕ → List ℕ
numbers_at b p zero = []
numbers_at b p (suc n) = two b p ∷ numbers_at b (p + 2) n

-- n members from p on
unfoldable pub members_at : List ℕ → ℕ → ℕ → List Member
members_at b p zero = []
members_at b p (suc n) = record { type = get_or b p 0; optional = eqb (get_or b (p + 1) 0) 1 } ∷ members_at b (p + 2) n

-- n octets, the first at p, each `step` behind the one before
unfoldable pub every_at : ℕ → List ℕ → ℕ → ℕ → List ℕ
every_at step b p zero = []
every_at step b p (suc n) = get_or b p 0 ∷ every_at step b (p + step) n

-- the body of kind k whose own part begins at p
unfoldable pub body_at : List ℕ → ℕ → ℕ → Body
body_at b k p =
    if (eqb k 1) (Plain Boolean) λ _.
    if (eqb k 2) (Plain Integer) λ _.
    if (eqb k 3) (Plain BitString) λ _.
    if (eqb k 4) (Plain OctetString) λ _.
    if (eqb k 5) (Plain Null) λ _.
    if (eqb k 10) (Plain (Enumerated (numbers_at b (p + 1) (get_or b p 0)))) λ _.
    if (eqb k 23) (Plain (Time Utc)) λ _.
    if (eqb k 24) (Plain (Time Generalized)) λ _.
    if (eqb k 16) (Sequence (members_at b (p + 1) (get_or b p 0))) λ _.
    if (eqb k 17) (Set (members_at b (p + 1) (get_or b p 0))) λ _.
    if (eqb k 48) (SequenceOf (get_or b p 0)) λ _.
    if (eqb k 49) (SetOf (get_or b p 0)) λ _.
    Choice (every_at 1 b (p + 1) (get_or b p 0))

-- where the own part of the record at o begins
abbrev pub own_at : List ℕ → ℕ → ℕ
own_at b o = o + 4 + 3 * get_or b (o + 3) 0

-- the record at o
unfoldable pub record_at : List ℕ → ℕ → Record
record_at b o = record { tags = tags_at b (o + 4) (get_or b (o + 3) 0); body = body_at b (get_or b (o + 2) 0) (own_at b o) }

-- where a counted own part ends that has items of `size` octets, from `least` to `most` of them; 0 if it does not fit
unfoldable pub counted_end : ℕ → ℕ → ℕ → List ℕ → ℕ → ℕ
counted_end size least most b p =
    if (leb (length b) p) 0 λ _.
    if (not (leb least (get_or b p 0))) 0 λ _.
    if (not (leb (get_or b p 0) most)) 0 λ _.
    if (not (leb (p + 1 + size * get_or b p 0) (length b))) 0 λ _.
    p + 1 + size * get_or b p 0

-- where an ENUMERATED's own part ends; 0 if it is not shaped
unfoldable pub enumerated_end : List ℕ → ℕ → ℕ
enumerated_end b p =
    if (eqb (counted_end 2 1 32 b p) 0) 0 λ _.
    if (not (rising 0 (numbers_at b (p + 1) (get_or b p 0)))) 0 λ _.
    counted_end 2 1 32 b p

-- where the members' own part ends; 0 if it is not shaped
unfoldable pub members_end : List ℕ → ℕ → ℕ
members_end b p =
    if (eqb (counted_end 2 0 16 b p) 0) 0 λ _.
    if (not (all (λ x. leb x 1) (every_at 2 b (p + 2) (get_or b p 0)))) 0 λ _.
    counted_end 2 0 16 b p

-- where one record number ends
abbrev pub reference_end : List ℕ → ℕ → ℕ
reference_end b p = if (leb (length b) p) 0 λ _. p + 1

-- where the own part at p of kind k ends; 0 if it is not shaped
unfoldable pub own_end : List ℕ → ℕ → ℕ → ℕ
own_end b k p =
    if (eqb k 0) 0 λ _.
    if (leb k 5) p λ _.
    if (eqb k 10) (enumerated_end b p) λ _.
    if (eqb k 23) p λ _.
    if (eqb k 24) p λ _.
    if (eqb k 16) (members_end b p) λ _.
    if (eqb k 17) (members_end b p) λ _.
    if (eqb k 48) (reference_end b p) λ _.
    if (eqb k 49) (reference_end b p) λ _.
    if (eqb k 50) (counted_end 1 1 16 b p) λ _.
    0

-- where the record at o ends; 0 if it is not shaped
unfoldable pub record_end : List ℕ → ℕ → ℕ
record_end b o =
    if (not (leb (o + 4) (length b))) 0 λ _.
    if (not (eqb (get_or b o 0) 0x54)) 0 λ _.
    if (not (eqb (get_or b (o + 1) 0) 0x59)) 0 λ _.
    if (not (leb (get_or b (o + 3) 0) 4)) 0 λ _.
    if (not (leb (own_at b o) (length b))) 0 λ _.
    if (not (all (λ x. leb x 3) (every_at 3 b (o + 4) (get_or b (o + 3) 0)))) 0 λ _.
    own_end b (get_or b (o + 2) 0) (own_at b o)

-- the places where the records begin; whole if nothing is left behind them, else they are those before the first that is not shaped
pub record Scan : Type 0 where
  pub whole : Bool
  pub offsets : List ℕ

-- at most k more records, from o on
unfoldable pub scan_from : List ℕ → ℕ → List ℕ → ℕ → Scan
scan_from b zero os o = record { whole = false; offsets = os }
scan_from b (suc k) os o =
    if (eqb (record_end b o) 0) (record { whole = false; offsets = os }) λ _.
    if (eqb (record_end b o) (length b)) (record { whole = true; offsets = os ++ (o ∷ []) }) λ _.
    scan_from b k (os ++ (o ∷ [])) (record_end b o)

unfoldable pub scan : List ℕ → Scan
scan b = scan_from b 128 [] 0

-- The table whose records begin at these places. A number without a place has its record behind all octets, where it is absent.
unfoldable pub look : List ℕ → List ℕ → Table
look b os t = record_at b (get_or os t 65535)

-- the records that octets stand for, by their numbers, and how many there are
abbrev pub table_in : List ℕ → Table
table_in b = look b (scan b).offsets

abbrev pub count_in : List ℕ → ℕ
count_in b = length (scan b).offsets
