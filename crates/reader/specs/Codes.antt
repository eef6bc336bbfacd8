-- Identifiers by their codes, and the search for the record that an identifier begins (X.690, 8.13).
-- Assumes nothing.
use Rattle.std.specs.Prelude.{Bool, true, false, not, ◌&&◌, ◌||◌, List, [], ◌∷◌, ℕ, zero, suc, ◌+◌, eqb, Option, Some, None}
use Rattle.x690.specs.declared.ReadingCause.{ReadingCause}
use Rattle.octets.specs.Answer.{Answer, got, refused, if}
use Rattle.ber.specs.Codes.{code_of}
use Rattle.x690.specs.Segments.{in_either}
use Rattle.table.specs.Syntax.{Body, Plain, Sequence, Set, SequenceOf, SetOf, Choice, Record, Table}
use Rattle.table.specs.Rules.{siblings}
use Rattle.records.specs.Entries.{untagged as no_tag, first_code, explicit_count}
use Rattle.coding.specs.Content.{segmented}
use Rattle.reader.specs.declared.search.Under.{Under}

-- of a CHOICE without tags, and where no identifier can be read
abbrev pub untagged : ℕ
untagged = no_tag

abbrev pub none : ℕ
none = 67108865

unfoldable pub peeked : Answer ReadingCause (List ℕ) → ℕ
peeked (got i s) = code_of i
peeked (refused c l) = none

abbrev pub first_of : Record → ℕ
first_of r = first_code r

-- the own identifier of a string may have either bit 6
unfoldable pub own_either : Body → Bool
own_either (Plain k) = in_either (segmented k)
own_either (Sequence ms) = false
own_either (Set ms) = false
own_either (SequenceOf t) = false
own_either (SetOf t) = false
own_either (Choice ts) = false

-- the j-th identifier of a record may: it is a string's own one, behind all explicit ones
unfoldable pub either_at : Record → ℕ → Bool
either_at r j = own_either r.body && eqb (explicit_count r) j

-- the first one
abbrev pub either : Record → Bool
either r = either_at r 0

-- c is the code a or, of either bit 6, that of the constructed form
unfoldable pub coded : Bool → ℕ → ℕ → Bool
coded e a c = eqb a c || (e && eqb (a + 32) c)

-- the code begins the record itself
abbrev pub starts_with : Record → ℕ → Bool
starts_with r c = coded (either r) (first_of r) c

-- the record u, under d CHOICEs
abbrev pub under : ℕ → ℕ → Option Under
under u d = Some (record { «record» = u; depth = d })

-- something is found
abbrev pub hit : Option Under → Bool
hit None = false
hit (Some x) = true

-- the first of the records that f finds something under, which stands one CHOICE deeper
unfoldable pub pick : Option Under → Option Under → Option Under
pick None y = y
pick (Some x) y = under x.«record» (suc x.depth)

unfoldable pub among : (ℕ → Option Under) → List ℕ → Option Under
among f [] = None
among f (t ∷ ts) = pick (f t) (among f ts)

-- the record that the code begins, of t and those under it through fewer than k CHOICEs without tags, and how many stand above it
unfoldable pub search_in : Table → ℕ → ℕ → ℕ → Option Under
search_in T zero t c = None
search_in T (suc k) t c =
    if (starts_with (T t) c) (under t 0) λ _.
    if (not (eqb (first_of (T t)) untagged)) None λ _.
    among (λ a. search_in T k a c) (siblings (T t).body)
