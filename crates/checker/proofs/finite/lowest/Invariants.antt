-- Records that were found were flagged one after another, from none. The measure is how many have no mark.
use Rattle.std.proofs.Common.{◌≡◌, length, replicate}
use Rattle.table.specs.Reading.{table_in}
use Rattle.table.specs.Walk.{free}
use Rattle.checker.specs.Marks.{Raised}
use Rattle.checker.proofs.finite.lowest.Given as goal

abbrev pub invariant-loop-flags : goal.invariant-loop-flags
invariant-loop-flags l = (length l.flags ≡ 128) × Raised (table_in l.w.table.now) (replicate 128 0) l.flags

abbrev pub decreases-loop-flags : goal.decreases-loop-flags
decreases-loop-flags l = free l.flags
