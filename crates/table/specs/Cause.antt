-- The rule of each cause of refusal on a table's octets, and which cause is the first (FORMATS, "Refusals" 1 to 6 and "Order of refusals").
-- Assumes nothing.
use Rattle.std.specs.Prelude.{List, ℕ, ◌<◌, length}
use Rattle.table.specs.declared.CheckCause.{CheckCause}
use Rattle.table.specs.declared.CheckCause.TheVariants.{TableShape, NoRecord, WrongTag, ChoiceLoop, SharedTag, NoValue}
use Rattle.table.specs.Syntax.{Record, Table, table}
use Rattle.table.specs.Octets.{Spells, Misshapen}
use Rattle.table.specs.Rules.{Dangling, Mistagged, Circular, Sharing, Infinite}

-- their numbers, which are also the order in which they are sought
abbrev pub cause_number : CheckCause → ℕ
cause_number TableShape = 1
cause_number NoRecord = 2
cause_number WrongTag = 3
cause_number ChoiceLoop = 4
cause_number SharedTag = 5
cause_number NoValue = 6

-- the octets are those of records, p is one of their numbers, and this holds of their table and their count
pub record Holds (b : List ℕ) (p : ℕ) (rule : Table → ℕ → Type 0) : Type 0 where
  pub records : List Record
  pub spells : Spells b records
  pub there : p < length records
  pub holds : rule (table records) (length records)

-- the rule of a cause is broken at the record p
pub data Breaks (b : List ℕ) (p : ℕ) : CheckCause → Type 0 where
  misshapen : Misshapen b p → Breaks b p TableShape
  dangling : Holds b p (λ T n. Dangling T n p) → Breaks b p NoRecord
  mistagged : Holds b p (λ T n. Mistagged (T p)) → Breaks b p WrongTag
  circular : Holds b p (λ T n. Circular T p) → Breaks b p ChoiceLoop
  sharing : Holds b p (λ T n. Sharing T p) → Breaks b p SharedTag
  infinite : Holds b p (λ T n. Infinite T p) → Breaks b p NoValue

-- Each cause is sought in the whole table before the next, and named at the lowest record that has it (FORMATS, "Order of refusals").
pub record FirstCause (b : List ℕ) (c : CheckCause) (p : ℕ) : Type 0 where
  pub holds : Breaks b p c
  pub earlier : (d : CheckCause) (q : ℕ) → cause_number d < cause_number c → Breaks b q d → ⊥
  pub lower : (q : ℕ) → q < p → Breaks b q c → ⊥
