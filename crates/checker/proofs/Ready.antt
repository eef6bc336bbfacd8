-- What a table that passed has, with its index: all that reading and writing rely on.
-- Assumes nothing.
use mathlib.Core.List.{List}
use Prim.Native.Nat.{ℕ, ◌<◌}
use lib.ListN.{get_or}
use Rattle.table.specs.Reading.{table_in, count_in}
use Rattle.table.specs.Passes.{Passes}
use Rattle.table.proofs.Theorems.{passes}
use Rattle.records.specs.Descriptors.{described, Describes, Listed}
use Rattle.checker.specs.declared.passed.Passed.{Passed}

pub record Ready (b index : List ℕ) : Type 0 where
  pub passes : Passes b (table_in b) (count_in b)
  pub listed : Listed b index (count_in b)

pub ready_by : (x : Passed) → Ready x.octets.now x.index.now
ready_by x = record { passes = passes x.octets.now x.small x.passed; listed = x.listed }

-- what the index has of a record describes it
pub described_in : {b index : List ℕ} → Ready b index → (t : ℕ) → t < count_in b → Describes b (described (get_or index t 0)) (table_in b t)
described_in R t h = R.listed.describes t h
