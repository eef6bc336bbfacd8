-- What the search for the part that an item begins answers (X.690, 8.9 to 8.13; FORMATS, "Order of refusals").
-- Assumes nothing.
use Rattle.std.specs.Prelude.{not, List, [], ◌≡◌, ℕ, ◌<◌, ◌≤◌, length, get_or, drop, Result, Ok, Err}
use Rattle.std.proofs.Math.Option.{Option, some, none}
use Rattle.x690.specs.declared.ReadingCause.{ReadingCause}
use Rattle.x690.specs.declared.ReadingCause.TheVariants.{NotAwaited, Trailing}
use Rattle.octets.specs.Answer.{Answer, got, refused, if}
use Rattle.ber.specs.Codes.{code_of}
use Rattle.x690.specs.Reading.{read_identifier}
use Rattle.table.specs.Syntax.{Member}
use Rattle.table.specs.Reading.{table_in}
use Rattle.records.specs.Descriptors.{described}
use Rattle.coding.specs.Reading.{not_awaited}
use Rattle.reader.specs.Codes.{starts_with, search_in, hit, under}
use Rattle.reader.specs.Items.{Holder, inside, message, each_once, manner, parts_of, Placed, awaits, remains, is_single, first, next}
use Rattle.reader.specs.Records.{Known, holder_in, Finds}
use Rattle.reader.specs.declared.search.Choice.{Choice}

-- what the entry w stands for, if it is one of a record that is not simple, or of a message
abbrev pub held : List ℕ → ℕ → Holder
held b w = holder_in b (described w)

-- what all who look among the parts of w rely on; but for a SET nothing is noted
pub record Sound (b index : List ℕ) (w : ℕ) (came : List ℕ) : Type 0 where
  pub known : Known b index w
  pub clear : (manner (held b w) ≡ each_once → ⊥) → (p : ℕ) → get_or came p 0 ≡ 0

-- the place of a part, and n if there is none
abbrev pub place_of : ℕ → Option Placed → ℕ
place_of n none = n
place_of n (some x) = x.0

-- the parts that stand in the table: a message has none
unfoldable pub tabled : Holder → ℕ → List ℕ → List Placed
tabled (inside b) i came = awaits (inside b) i came
tabled (message t) i came = []

unfoldable pub tabled_count : Holder → ℕ
tabled_count (inside b) = length (parts_of (inside b))
tabled_count (message t) = 0

-- the first that begins with the code itself
abbrev pub direct : List ℕ → Holder → ℕ → List ℕ → ℕ → ℕ
direct b h i came code = place_of (tabled_count h) (first (λ x. starts_with (table_in b x.1.type) code) (tabled h i came))

-- the refusal of an item that begins no part that is awaited
unfoldable pub unfit : {A : Type 0} → Holder → ℕ → List ℕ → List ℕ → Answer ReadingCause A
unfit h i came s =
    if (is_single (manner h)) (not_awaited s) λ _.
    if (not (remains h i came)) (refused Trailing (length s)) λ _.
    not_awaited s

-- its cause, where c is that of an item that is not awaited
unfoldable pub unfit_cause : Holder → ℕ → List ℕ → ReadingCause → ReadingCause
unfit_cause h i came c =
    if (is_single (manner h)) c λ _.
    if (not (remains h i came)) Trailing λ _. c

-- the part under which a record begins with the code, and the way to that record; or the refusal
abbrev pub Indirect : List ℕ → Holder → ℕ → List ℕ → ℕ → ℕ → List ℕ → Result Choice ReadingCause → Type 0
Indirect b h i came code from way (Ok x) =
    (part : Member) × (first (λ y. hit (search_in (table_in b) 129 y.1.type code)) (awaits h i came) ≡ some (x.place, part)) × (x.from ≡ from)
    × Finds b code way part.type (under x.record x.depth)
Indirect b h i came code from way (Err c) =
    (first (λ y. hit (search_in (table_in b) 129 y.1.type code)) (awaits h i came) ≡ none) × (c ≡ unfit_cause h i came NotAwaited)

-- the part that the item at the beginning of m begins, the record under it that begins with the item's code, and the way to that; or why there is none
abbrev pub Sought : List ℕ → Holder → ℕ → List ℕ → List ℕ → List ℕ → Result Choice ReadingCause → Type 0
Sought b h i came m way (Ok x) =
    (part : Member) × (i₁ : List ℕ) × (next (table_in b) h i came m ≡ some (x.place, part))
    × (read_identifier m ≡ got i₁ (drop x.from m)) × (0 < x.from) × (x.from ≤ length m)
    × Finds b (code_of i₁) way part.type (under x.record x.depth)
Sought b h i came m way (Err c) =
    (next (table_in b) h i came m ≡ none) × (unfit {A = List ℕ} h i came m ≡ refused c (length m))
