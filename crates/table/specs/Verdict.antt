-- The verdict on a table's octets, as it is computed (FORMATS, "Order of refusals"). That it names the first cause is proved in `proofs/`.
-- Assumes nothing.
use Rattle.std.specs.Prelude.{Bool, not, List, [], ◌∷◌, ℕ, ltb, length, Result, Ok, Err}
use Rattle.octets.specs.Tests.{if}
use Rattle.octets.specs.Lists.{lowest}
use Rattle.table.specs.Syntax.{Table}
use Rattle.table.specs.Reading.{scan, look}
use Rattle.table.specs.Decide.{dangling, mistagged, circular, sharing, infinite}
use Rattle.table.specs.declared.CheckCause.{CheckCause}
use Rattle.table.specs.declared.CheckCause.TheVariants.{TableShape, NoRecord, WrongTag, ChoiceLoop, SharedTag, NoValue}
use Rattle.table.specs.declared.Flaw.{Flaw}

-- passed, or the first cause and the record that has it
abbrev pub Verdict : Type 0
Verdict = Result (Unit {0}) Flaw

abbrev pub no_flaw : Verdict
no_flaw = Ok tt

abbrev pub flawed : CheckCause → ℕ → Verdict
flawed c p = Err (record { cause = c; place = p })

-- a cause of records, and its test at a record: the table, how many records it has, and the record
abbrev pub Test : Type 0
Test = CheckCause × (Table → ℕ → ℕ → Bool)

-- the causes in turn, each sought in all n records: refused by the first that is found, at the lowest record that has it (FORMATS, "Order of refusals")
abbrev pub in_turn : Table → ℕ → List Test → Verdict
in_turn T n [] = no_flaw
in_turn T n (x ∷ xs) = if (ltb (lowest (x.1 T n) n) n) (flawed x.0 (lowest (x.1 T n) n)) λ _. in_turn T n xs

-- 4 to 6
abbrev pub choice_causes : List Test
choice_causes = (ChoiceLoop, circular) ∷ (SharedTag, sharing) ∷ (NoValue, infinite) ∷ []

-- 2 to 6
abbrev pub record_causes : List Test
record_causes = (NoRecord, dangling) ∷ (WrongTag, λ T n p. mistagged T p) ∷ choice_causes

unfoldable pub judge_choices : Table → ℕ → Verdict
judge_choices T n = in_turn T n choice_causes

unfoldable pub judge : Table → ℕ → Verdict
judge T n = in_turn T n record_causes

-- so many octets are not looked at (FORMATS, "Limits")
abbrev pub too_long : List ℕ → Bool
too_long b = ltb 8192 (length b)

-- Too many octets are refused by 1 at 0, whatever they are; then 1 at the first record that is not shaped; then the causes of records (FORMATS, "Order of refusals").
unfoldable pub verdict : List ℕ → Verdict
verdict b =
    if (too_long b) (flawed TableShape 0) λ _.
    if (not (scan b).whole) (flawed TableShape (length (scan b).offsets)) λ _.
    judge (look b (scan b).offsets) (length (scan b).offsets)
