-- What clashes among the members that are left clashes among all, and what clashes among all does there.
use Rattle.checker.proofs.Runs.{Remaining}
use Rattle.checker.proofs.first_tags.clash_in_a_run.Given as goal

abbrev pub invariant-loop-left : goal.invariant-loop-left
invariant-loop-left l = Remaining l.w.table.now l.fn.s.first l.fn.s.count l.first l.left

abbrev pub decreases-loop-left : goal.decreases-loop-left
decreases-loop-left l = l.left
