-- The entries of a table's index as numbers, what they hold, and the places in the table's octets b to which they lead (FORMATS, "Tables").
-- Assumes nothing.
use Rattle.std.specs.Prelude.{Bool, true, false, not, ◌||◌, List, [], ◌∷◌, ◌≡◌, ℕ, ◌+◌, ◌-◌, ◌*◌, ◌/◌, ◌%◌, ◌≤◌, ◌<◌, ltb, leb, eqb, ℤ, pos, negsuc, length, get_or}
use Rattle.octets.specs.Tests.{if}
use Rattle.octets.specs.Lists.{any}
use Rattle.octets.specs.Numbers.{two}
use Rattle.ber.specs.Codes.{code}
use Rattle.table.specs.Syntax.{Tag, Member, Body, Plain, Sequence, Set, SequenceOf, SetOf, Choice, Record, is_choice, constructed}
use Rattle.table.specs.Octets.{record_shaped}
use Rattle.table.specs.Reading.{tags_at, numbers_at, members_at, every_at, body_at, own_at, own_end, table_in, count_in}
use Rattle.table.specs.Fields.{constructed_of}
use Rattle.records.specs.declared.entry.Entry.{Entry}
use Rattle.records.specs.declared.entry.Span.{Span}

-- from the lowest: the code in 32 bits, the place of the own part in 16, the kind in 8, the explicit tags in 7, simple or not in 1
unfoldable pub unpacked : ℕ → Entry
unpacked w =
    record {
      code = w % 4294967296;
      own = w / 4294967296 % 65536;
      kind = w / 281474976710656 % 256;
      explicit = w / 72057594037927936 % 128;
      simple = leb 9223372036854775808 w;
    }

-- the highest octet: the explicit tags, and 128 more for a simple kind
abbrev pub high_octet : Bool → ℕ → ℕ
high_octet true x = x + 128
high_octet false x = x

-- an entry as one number, which `unpacked` takes apart again
unfoldable pub packed : Entry → ℕ
packed e = ((high_octet e.simple e.explicit * 256 + e.kind) * 65536 + e.own) * 4294967296 + e.code

-- the first identifier as a number: of the outermost tag, which is constructed unless it is the only one of a simple kind
abbrev pub untagged : ℕ
untagged = 67108864

abbrev pub more : {A : Type 0} → List A → Bool
more [] = false
more (x ∷ l) = true

unfoldable pub outermost_code : List Tag → Body → ℕ
outermost_code [] b = untagged
outermost_code (g ∷ gs) b = code g.class (more gs || constructed b) g.number

abbrev pub first_code : Record → ℕ
first_code r = outermost_code r.tags r.body

-- the same of as many tags from p on
unfoldable pub outermost_in : List ℕ → ℕ → ℕ → Bool → ℕ
outermost_in b p n simple =
    if (eqb n 0) untagged λ _.
    code (get_or b p 0) (ltb 1 n || not simple) (two b (p + 1))

-- how many tags are explicit: all of a CHOICE, all but the last of another kind; 127 where that lacks its own
abbrev pub all_but_last : ℕ → ℕ
all_but_last n = if (eqb n 0) 127 λ _. n - 1

unfoldable pub explicit_count : Record → ℕ
explicit_count r = if (is_choice r.body) (length r.tags) λ _. all_but_last (length r.tags)

-- the entry of the record at o
unfoldable pub entry_at : List ℕ → ℕ → Entry
entry_at b o =
    let kind = get_or b (o + 2) 0 in
    let tags = get_or b (o + 3) 0 in
    let simple = not (constructed_of kind) in
    record {
      code = outermost_in b (o + 4) tags simple;
      own = own_at b o;
      kind = kind;
      explicit = if (eqb kind 50) tags λ _. all_but_last tags;
      simple = simple;
    }

-- how many tags an entry has
unfoldable pub tag_count : Entry → ℕ
tag_count e =
    if (eqb e.kind 50) e.explicit λ _.
    if (eqb e.explicit 127) 0 λ _. e.explicit + 1

-- the place of the j-th
abbrev pub tag_place : Entry → ℕ → ℕ
tag_place e j = e.own - 3 * (tag_count e - j)

-- as many parts as the octet at p says, behind it
abbrev pub counted : List ℕ → ℕ → ℕ → Span
counted b p step = record { first = p + 1; count = get_or b p 0; step = step }

-- whether a body has members
unfoldable pub has_members : Body → Bool
has_members (Plain k) = false
has_members (Sequence ms) = true
has_members (Set ms) = true
has_members (SequenceOf t) = false
has_members (SetOf t) = false
has_members (Choice ts) = false

-- members, alternatives, or the one type of elements, of kind k whose own part is at p
unfoldable pub span_of : List ℕ → ℕ → ℕ → Span
span_of b k p =
    if (eqb k 16 || eqb k 17) (counted b p 2) λ _.
    if (eqb k 50) (counted b p 1) λ _.
    if (eqb k 48 || eqb k 49) (record { first = p; count = 1; step = 0 }) λ _.
    record { first = p; count = 0; step = 0 }

-- an integer is one of the numbers
abbrev pub lists_number : List ℕ → ℤ → Bool
lists_number ns (pos k) = any (λ n. eqb n k) ns
lists_number ns (negsuc k) = false

-- the entry is of the record, whose own part ends within the octets
pub record Entered (b : List ℕ) (e : Entry) (r : Record) : Type 0 where
  pub body : body_at b e.kind e.own ≡ r.body
  pub tags : tags_at b (e.own - 3 * length r.tags) (length r.tags) ≡ r.tags
  pub behind : 3 * length r.tags ≤ e.own
  pub few : length r.tags ≤ 4
  pub code : e.code ≡ first_code r
  pub explicit : e.explicit ≡ explicit_count r
  pub simple : e.simple ≡ not (constructed r.body)
  pub some : 0 < own_end b e.kind e.own
  pub ends : own_end b e.kind e.own ≤ length b

-- what the own part of the entry's record is, within the octets: members, alternatives, the one type of elements, the numbers of an ENUMERATED
pub record WithMembers (b : List ℕ) (e : Entry) (ms : List Member) : Type 0 where
  pub is : members_at b (e.own + 1) (get_or b e.own 0) ≡ ms
  pub span : span_of b e.kind e.own ≡ counted b e.own 2
  pub count : get_or b e.own 0 ≡ length ms
  pub few : length ms ≤ 16
  pub within : e.own + 1 + 2 * length ms ≤ length b

pub record WithAlternatives (b : List ℕ) (e : Entry) (ts : List ℕ) : Type 0 where
  pub is : every_at 1 b (e.own + 1) (get_or b e.own 0) ≡ ts
  pub span : span_of b e.kind e.own ≡ counted b e.own 1
  pub count : get_or b e.own 0 ≡ length ts
  pub some : 1 ≤ length ts
  pub few : length ts ≤ 16
  pub within : e.own + 1 + length ts ≤ length b

pub record WithElements (b : List ℕ) (e : Entry) (t : ℕ) : Type 0 where
  pub is : get_or b e.own 0 ≡ t
  pub span : span_of b e.kind e.own ≡ record { first = e.own; count = 1; step = 0 }
  pub within : e.own < length b

pub record WithNumbers (b : List ℕ) (e : Entry) (ns : List ℕ) : Type 0 where
  pub is : numbers_at b (e.own + 1) (get_or b e.own 0) ≡ ns
  pub count : get_or b e.own 0 ≡ length ns
  pub some : 1 ≤ length ns
  pub few : length ns ≤ 32
  pub within : leb (e.own + 1 + 2 * get_or b e.own 0) (length b) ≡ true

-- the first n numbers are the entries of the records
pub record Filled (b index : List ℕ) (n : ℕ) : Type 0 where
  pub count : n ≡ count_in b
  pub few : n ≤ 128
  pub short : length b ≤ 8192
  pub shaped : (t : ℕ) → t < n → record_shaped (table_in b t) ≡ true
  pub entered : (t : ℕ) → t < n → Entered b (unpacked (get_or index t 0)) (table_in b t)

-- a span lies where sums of its places do not wrap
pub record Near (s : Span) : Type 0 where
  pub near : s.first < 70000
  pub few : s.count < 256
  pub close : s.step < 3
