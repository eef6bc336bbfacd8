-- The levels that are left, and the loop over a row: what was judged is noted, and what is left begins at `at`.
-- Assumes nothing.
use Rattle.std.proofs.Common.{◌+◌, ◌*◌}
use Rattle.records.specs.Descriptors.{described}
use Rattle.writer.proofs.Members.{GoingOn}
use Rattle.writer.proofs.judge.+judge_built_judge_members.Given as goal

abbrev pub decreases-judge_built : goal.decreases-judge_built
decreases-judge_built l = 2 * l.level

abbrev pub decreases-judge_members : goal.decreases-judge_members
decreases-judge_members l = 2 * l.level + 1

abbrev pub invariant-judge_members-loop-i : goal.invariant-judge_members-loop-i
invariant-judge_members-loop-i l = GoingOn l.table.octets.now l.v (described l.w) l.p l.level l.initial.notes l.i l.at l.total l.notes
