-- The octet form of a table, and which tables have one (FORMATS, "Tables" and "Limits").
-- Assumes nothing.
use Rattle.std.specs.Prelude.{Bool, true, false, ◌&&◌, List, [], ◌∷◌, ◌++◌, map, ◌≡◌, ℕ, ◌+◌, ◌≤◌, ◌<◌, leb, length}
use Rattle.octets.specs.Lists.{all, joined}
use Rattle.octets.specs.Numbers.{octets_of}
use Rattle.dates.specs.declared.TimeKind.TheVariants.{Utc, Generalized}
use Rattle.table.specs.Syntax.{Tag, Member, Boolean, Integer, BitString, OctetString, Null, Enumerated, Time, Body, Plain, Sequence, Set, SequenceOf, SetOf, Choice, Record}

-- the octet of a kind (FORMATS, "Tables")
unfoldable pub kind : Body → ℕ
kind (Plain Boolean) = 1
kind (Plain Integer) = 2
kind (Plain BitString) = 3
kind (Plain OctetString) = 4
kind (Plain Null) = 5
kind (Plain (Enumerated ns)) = 10
kind (Plain (Time Utc)) = 23
kind (Plain (Time Generalized)) = 24
kind (Sequence ms) = 16
kind (Set ms) = 17
kind (SequenceOf t) = 48
kind (SetOf t) = 49
kind (Choice ts) = 50

-- the class, then the number in two octets (FORMATS, "Tables")
unfoldable pub tag_octets : Tag → List ℕ
tag_octets g = g.class ∷ octets_of g.number

abbrev pub flag : Bool → ℕ
flag true = 1
flag false = 0

-- the record number, then the flag (FORMATS, "Tables")
unfoldable pub member_octets : Member → List ℕ
member_octets m = m.type ∷ flag m.optional ∷ []

-- the own part: where there are several, their count comes first (FORMATS, "Tables")
unfoldable pub own_octets : Body → List ℕ
own_octets (Plain Boolean) = []
own_octets (Plain Integer) = []
own_octets (Plain BitString) = []
own_octets (Plain OctetString) = []
own_octets (Plain Null) = []
own_octets (Plain (Enumerated ns)) = length ns ∷ joined (map octets_of ns)
own_octets (Plain (Time k)) = []
own_octets (Sequence ms) = length ms ∷ joined (map member_octets ms)
own_octets (Set ms) = length ms ∷ joined (map member_octets ms)
own_octets (SequenceOf t) = t ∷ []
own_octets (SetOf t) = t ∷ []
own_octets (Choice ts) = length ts ∷ ts

-- the mark 54 59, the kind, how many tags, the tags, the own part (FORMATS, "Tables")
unfoldable pub record_octets : Record → List ℕ
record_octets r =
    0x54 ∷ 0x59 ∷ kind r.body ∷ length r.tags ∷ (joined (map tag_octets r.tags) ++ own_octets r.body)

-- each is above the one before; none is below low (FORMATS, "Tables")
unfoldable pub rising : ℕ → List ℕ → Bool
rising low [] = true
rising low (n ∷ ns) = leb low n && rising (n + 1) ns

-- the counts of the own part are within the limits, and the numbers of an ENUMERATED rise (FORMATS, "Limits")
unfoldable pub body_shaped : Body → Bool
body_shaped (Plain Boolean) = true
body_shaped (Plain Integer) = true
body_shaped (Plain BitString) = true
body_shaped (Plain OctetString) = true
body_shaped (Plain Null) = true
body_shaped (Plain (Enumerated ns)) = leb 1 (length ns) && leb (length ns) 32 && rising 0 ns
body_shaped (Plain (Time k)) = true
body_shaped (Sequence ms) = leb (length ms) 16
body_shaped (Set ms) = leb (length ms) 16
body_shaped (SequenceOf t) = true
body_shaped (SetOf t) = true
body_shaped (Choice ts) = leb 1 (length ts) && leb (length ts) 16

-- and so are the count of tags and their classes (FORMATS, "Limits")
unfoldable pub record_shaped : Record → Bool
record_shaped r = leb (length r.tags) 4 && all (λ g. leb g.class 3) r.tags && body_shaped r.body

-- the octets are those of these records one behind the other, and all is within the limits (FORMATS, "Tables", "Limits")
pub record Spells (b : List ℕ) (rs : List Record) : Type 0 where
  pub is : b ≡ joined (map record_octets rs)
  pub shaped : all record_shaped rs ≡ true
  pub some : 1 ≤ length rs
  pub few : length rs ≤ 128
  pub short : length b ≤ 8192

-- k well-formed records, and then the rest
pub record Begins (b : List ℕ) (k : ℕ) (rest : List ℕ) : Type 0 where
  pub records : List Record
  pub is : b ≡ joined (map record_octets records) ++ rest
  pub shaped : all record_shaped records ≡ true
  pub count : length records ≡ k

-- 1: the octets are those of no records within the limits. The place is the first record that is not there or not shaped, 128 where there are more, and 0 of too many octets (FORMATS, "Refusals").
pub data Misshapen (b : List ℕ) : ℕ → Type 0 where
  over_long : 8192 < length b → Misshapen b 0
  no_record : {k : ℕ} (rest : List ℕ) → length b ≤ 8192 → Begins b k rest → k < 128 → (rest ≡ [] → k ≡ 0)
      → ((r : Record) (u : List ℕ) → record_shaped r ≡ true → rest ≡ record_octets r ++ u → ⊥) → Misshapen b k
  too_many : (rest : List ℕ) → length b ≤ 8192 → Begins b 128 rest → (rest ≡ [] → ⊥) → Misshapen b 128
