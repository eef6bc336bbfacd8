-- Explicit tags that were opened one after another, and their closing (X.690, 8.14).
-- A note for each: twice the end of the octets around its item, and 1 if its length is indefinite.
-- Assumes nothing.
use Rattle.std.specs.Prelude.{Bool, true, false, ◌&&◌, ◌||◌, List, [], ◌∷◌, ◌++◌, ◌≡◌, ℕ, ◌+◌, ◌-◌, ◌*◌, ◌/◌, ◌%◌, ◌≤◌, ◌<◌, eqb, length, get_or, take, drop, Result, Ok, Err}
use Rattle.x690.specs.declared.ReadingCause.{ReadingCause}
use Rattle.x690.specs.declared.Unread.{Unread}
use Rattle.x690.specs.declared.ReadingCause.TheVariants.{NotAwaited, Trailing}
use Rattle.octets.specs.Answer.{Answer, got, refused, then, if, behind}
use Rattle.octets.specs.Lists.{same}
use Rattle.ber.specs.Codes.{code_of}
use Rattle.ber.specs.Told.{mode}
use Rattle.x690.specs.Reading.{read_identifier, Mode, closed, open_ended, at_end}
use Rattle.x690.specs.Segments.{in_parts}
use Rattle.table.specs.Syntax.{Record, is_choice}
use Rattle.table.specs.Reading.{table_in}
use Rattle.coding.specs.Tags.{own_tag, explicit}
use Rattle.coding.specs.Value.{Value}
use Rattle.coding.specs.Reading.{read_kind, read_value}
use Rattle.reader.specs.Codes.{own_either, either_at, coded as coded_as}
use Rattle.reader.specs.Records.{read_record}
use Rattle.reader.specs.declared.tags.Inner.{Inner}

-- behind the one item under a tag
unfoldable pub ended : {A : Type 0} → Mode → Answer ReadingCause A → Answer ReadingCause A
ended mode x = then x λ v w. at_end mode w (λ y. got v y) λ _. refused Trailing (length w)

-- the tag's item, where x is what was read in its contents: those end at `inner`, if they are definite
unfoldable pub shut : {A : Type 0} → List ℕ → ℕ → ℕ → Bool → Answer ReadingCause A → Answer ReadingCause A
shut m outer inner true x = ended open_ended x
shut m outer inner false x = then (behind (outer - inner) (ended closed x)) λ v r. got v (drop inner (take outer m))

unfoldable pub inner_end : List ℕ → ℕ → ℕ
inner_end [] e = e
inner_end (n ∷ ns) e = n / 2

-- the tags of the notes, the outermost first; the contents of the innermost end at e
unfoldable pub closing : {A : Type 0} → List ℕ → List ℕ → ℕ → Answer ReadingCause A → Answer ReadingCause A
closing m [] e x = x
closing m (n ∷ ns) e x = shut m (n / 2) (inner_end ns e) (eqb (n % 2) 1) (closing m ns e x)

abbrev pub note_of : ℕ → Bool → ℕ
note_of e true = 2 * e + 1
note_of e false = 2 * e

-- the octets around the tags end one within the other, those of the outermost at n, the contents of the innermost at e;
-- under a tag of indefinite length the end is that of the octets around it
unfoldable pub Around : ℕ → List ℕ → ℕ → Type 0
Around n [] e = n ≡ e
Around n (k ∷ ns) e = (k / 2 ≡ n) × (inner_end ns e ≤ n) × (k % 2 ≡ 1 → inner_end ns e ≡ n) × Around (inner_end ns e) ns e

-- an identifier at a place of m, where it ends, and its code; if `either`, it may be of the constructed form too
pub record Headed (m : List ℕ) (at from : ℕ) (either : Bool) (code : ℕ) : Type 0 where
  pub identifier : List ℕ
  pub is : read_identifier (drop at m) ≡ got identifier (drop from m)
  pub coded : coded_as either code (code_of identifier) ≡ true
  pub further : at < from
  pub low : from ≤ length m

-- the identifiers of a record, the outermost first; a CHOICE has none of its own
abbrev pub identifiers : Record → List (List ℕ)
identifiers r = explicit r ++ if (is_choice r.body) [] λ _. own_tag r ∷ []

-- the item of a record under its explicit tags, where the values in it have n levels
abbrev pub read_bare : List ℕ → ℕ → Record → List ℕ → Answer ReadingCause Value
read_bare b n r s = read_kind (table_in b) (λ u w. read_value (table_in b) n u w) (own_tag r) r.body s

-- the identifier octets i are the awaited ones o or, if e, those of the constructed form
abbrev pub sent_as : Bool → List ℕ → List ℕ → Bool
sent_as e o i = same o i || (e && same (in_parts o) i)

-- the j-th identifier of r, which m must begin with: where it ends; behind the last there is none; or why it is refused
pub data AwaitsTag (r : Record) (j : ℕ) (m : List ℕ) : Result ℕ ReadingCause → Type 0 where
  behind_last : length (identifiers r) ≤ j → AwaitsTag r j m (Ok 0)
  is_tag : (end : ℕ) → j < length (identifiers r) → Headed m 0 end (either_at r j) (code_of (get_or (identifiers r) j [])) → AwaitsTag r j m (Ok end)
  no_tag : {c : ReadingCause} → j < length (identifiers r)
      → then (read_identifier m) (λ i s. if (sent_as (either_at r j) (get_or (identifiers r) j []) i) (got i s) λ _. refused NotAwaited (length m)) ≡ refused c (length m)
      → AwaitsTag r j m (Err c)

-- the same in the contents of a tag, which 00 00 closes if `indefinite`: over they may not be
abbrev pub must_go_on : Bool → List ℕ → Answer ReadingCause (List ℕ)
must_go_on indefinite m = at_end (mode indefinite) m (λ u. refused NotAwaited (length m)) λ _. got [] m

pub data EntersTag (r : Record) (j : ℕ) (m : List ℕ) (indefinite : Bool) : Result ℕ ReadingCause → Type 0 where
  goes_on : {x : Result ℕ ReadingCause} → must_go_on indefinite m ≡ got [] m → 0 < length m → AwaitsTag r j m x → EntersTag r j m indefinite x
  is_over : {c : ReadingCause} → must_go_on indefinite m ≡ refused c (length m) → EntersTag r j m indefinite (Err c)

-- What opening the tags of a record says of reading it, with however many levels.
abbrev pub Opens : List ℕ → Record → List ℕ → ℕ → List ℕ → Result Inner Unread → Type 0
Opens b r m at ns (Ok x) =
    (at < x.at) × (x.at < x.end) × (x.end ≤ length m) × Around (length m) ns x.end
    × (is_choice r.body ≡ false → Headed (take x.end m) x.at x.from (own_either r.body) (code_of (own_tag r)))
    × ((n : ℕ) → read_record (table_in b) n r (drop at m) ≡ closing m ns x.end (read_bare b n r (drop x.at (take x.end m))))
Opens b r m at ns (Err x) = (x.left ≤ length m) × ((n : ℕ) → read_record (table_in b) n r (drop at m) ≡ refused x.cause x.left)
