-- The records before t have theirs.
use Rattle.std.proofs.Common.{◌≡◌, ℕ, ◌<◌, length, get_or}
use Rattle.table.specs.Reading.{table_in}
use Rattle.table.specs.Walk.{like}
use Rattle.checker.proofs.first_tags.stand_ins.Given as goal

abbrev pub invariant-loop-t : goal.invariant-loop-t
invariant-loop-t l = (length l.nodes ≡ 128) × ((k : ℕ) → k < l.t → get_or l.nodes k 0 ≡ like (table_in l.w.table.now) k)
