-- The numbers so far are filled in, zeros follow, and the scan goes on at `at`.
use Rattle.checker.proofs.Entering.{Entering}
use Rattle.checker.proofs.index.fill.Given as goal

abbrev pub invariant-loop-count : goal.invariant-loop-count
invariant-loop-count l = Entering l.table l.index l.count l.at
