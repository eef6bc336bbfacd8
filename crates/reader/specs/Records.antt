-- What an entry of a table's index stands for (FORMATS, "Tables").
-- Assumes nothing.
use Rattle.std.specs.Prelude.{Bool, true, false, List, ◌≡◌, ℕ, ◌<◌, eqb, get_or, Option, Some, None}
use Rattle.x690.specs.declared.ReadingCause.{ReadingCause}
use Rattle.octets.specs.Answer.{Answer, if}
use Rattle.table.specs.Syntax.{Record, Table}
use Rattle.table.specs.Reading.{tags_at, body_at, table_in, count_in}
use Rattle.kinds.specs.Kinds.{octet_of}
use Rattle.kinds.specs.declared.Kind.TheVariants.{Message}
use Rattle.records.specs.Entries.{tag_count, tag_place}
use Rattle.records.specs.Descriptors.{entry_of, described, Describes}
use Rattle.records.specs.declared.descriptor.Descriptor.{Descriptor}
use Rattle.coding.specs.Value.{Value}
use Rattle.coding.specs.Tags.{own_tag, explicit}
use Rattle.coding.specs.Reading.{read_wrapped, read_kind, read_value}
use Rattle.reader.specs.Codes.{starts_with, search_in}
use Rattle.reader.specs.Items.{Holder, inside, message}
use Rattle.reader.specs.Ways.{Leads}
use Rattle.reader.specs.declared.search.Under.{Under}

-- the record of an entry
unfoldable pub record_in : List ℕ → Descriptor → Record
record_in b e = record { tags = tags_at b (tag_place (entry_of e) 0) (tag_count (entry_of e)); body = body_at b (octet_of e.kind) e.own }

-- what its items stand in; 51 is the kind of a message
unfoldable pub holder_in : List ℕ → Descriptor → Holder
holder_in b e = if (eqb (octet_of e.kind) 51) (message e.own) λ _. inside (body_at b (octet_of e.kind) e.own)

-- an entry of the index, or that of a message
pub data Known (b index : List ℕ) (w : ℕ) : Type 0 where
  of_record : (t : ℕ) → t < count_in b → w ≡ get_or index t 0 → Known b index w
  of_message : (t : ℕ) → t < count_in b → described w ≡ record { code = 0; own = t; kind = Message; explicit = 0; simple = false } → Known b index w

-- an entry of the index
abbrev pub IsRecord : List ℕ → List ℕ → ℕ → Type 0
IsRecord b index w = (t : ℕ) × (t < count_in b) × (w ≡ get_or index t 0)

-- the code begins the record of the entry w itself
abbrev pub Begins : ℕ → ℕ → Bool → Type 0
Begins w code r = (b : List ℕ) (x : Record) → Describes b (described w) x → r ≡ starts_with x code

-- a value of a record, where the values in it have n levels
unfoldable pub read_record : Table → ℕ → Record → List ℕ → Answer ReadingCause Value
read_record T n r s = read_wrapped (explicit r) (read_kind T (λ u w. read_value T n u w) (own_tag r) r.body) s

-- what the search finds under t: the record that the code begins, with the way to it
abbrev pub Finds : List ℕ → ℕ → List ℕ → ℕ → Option Under → Type 0
Finds b code way t None = search_in (table_in b) 129 t code ≡ None
Finds b code way t (Some x) =
    (search_in (table_in b) 129 t code ≡ Some x) × Leads (table_in b) code way t x.depth x.«record»
    × (starts_with (table_in b x.«record») code ≡ true) × (x.«record» < count_in b)
