-- The records from t on were looked at.
use Rattle.std.proofs.Common.{◌≡◌, length}
use Rattle.table.specs.Reading.{table_in}
use Rattle.checker.specs.Marks.{Looked}
use Rattle.checker.proofs.Marks.{From}
use Rattle.checker.proofs.finite.round.Given as goal

abbrev pub invariant-loop-t : goal.invariant-loop-t
invariant-loop-t l = (length l.flags ≡ 128) × Looked (table_in l.w.table.now) (From l.t l.w.count) l.initial.flags l.more l.flags
