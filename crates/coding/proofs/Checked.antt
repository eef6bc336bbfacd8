-- From the check of a table to the outcome of a call that is given the table.
-- Assumes nothing.
use mathlib.Core.List.{List}
use mathlib.Core.Path.{◌≡◌}
use Prim.Native.Nat.{ℕ}
use Rattle.table.specs.declared.CheckCause.{CheckCause}
use Rattle.table.specs.Syntax.{Table}
use Rattle.table.specs.Reading.{table_in, count_in}
use Rattle.table.specs.Verdict.{verdict, no_flaw, flawed}
use Rattle.coding.specs.Outcome.{Outcome, Told, refusal, table_cause, of_table}
use Rattle.coding.specs.Calls.{after_check}

-- an outcome is what was answered and what the buffer holds
abbrev pub Says : Outcome → Told → List ℕ → Type 0
Says x r buf = (r ≡ x.answer) × (buf ≡ x.buffer)

module _ (b buf : List ℕ) (f : Table → ℕ → Outcome) where
  -- the table is refused
  pub out_table : (k : CheckCause) (p : ℕ) → verdict b ≡ flawed k p → Says (after_check b buf f (verdict b)) (refusal (of_table (table_cause k p))) buf
  unfolding after_check
  out_table k p q = (rw q, rw q)

  -- or passes, and what follows is by its records
  pub out_passed : verdict b ≡ no_flaw → (r : Told) (w : List ℕ) → Says (f (table_in b) (count_in b)) r w → Says (after_check b buf f (verdict b)) r w
  unfolding after_check
  out_passed q r w s = (rw q s.0, rw q s.1)
