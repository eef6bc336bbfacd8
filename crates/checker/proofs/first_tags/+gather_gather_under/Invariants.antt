-- The measures are twice the count of records without a mark, and one more. The loop's invariant: the walk so far, and what is left of it.
use Rattle.std.proofs.Common.{◌≡◌, ◌+◌, ◌-◌, ◌*◌, ◌≤◌, length, get_or}
use Rattle.table.specs.Rules.{below}
use Rattle.table.specs.Reading.{every_at, table_in}
use Rattle.table.specs.Walk.{free}
use Rattle.checker.proofs.Gather.{Going}
use Rattle.checker.proofs.first_tags.+gather_gather_under.Given as goal

abbrev pub decreases-gather : goal.decreases-gather
decreases-gather l = 2 * free l.flags.now

abbrev pub decreases-gather_under : goal.decreases-gather_under
decreases-gather_under l = 2 * free l.flags.now + 1

abbrev pub invariant-gather_under-loop-at : goal.invariant-gather_under-loop-at
invariant-gather_under-loop-at l =
    (length l.flags ≡ 129) × (free l.flags ≤ free l.fn.flags)
    × Going (table_in l.w.table.now) (get_or l.fn.flags 128 0) l.fn.flags (below (table_in l.w.table.now) l.t) l.flags (every_at 1 l.w.table.now l.at (l.at-end - l.at))
