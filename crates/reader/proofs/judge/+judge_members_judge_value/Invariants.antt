-- How deep `reader::judge::judge_members` and `judge_value` go, and what holds before each item.
-- Assumes nothing.
use Rattle.std.proofs.Common.{◌+◌, ◌-◌, ◌*◌, ◌≤◌, length}
use Rattle.reader.proofs.JudgedMembers.{Judging}
use Rattle.reader.proofs.judge.+judge_members_judge_value.Given as goal

abbrev pub decreases-judge_members : goal.decreases-judge_members
decreases-judge_members l = 2 * l.level

abbrev pub decreases-judge_value : goal.decreases-judge_value
decreases-judge_value l = 2 * l.level + 1

abbrev pub invariant-judge_members-loop-end : goal.invariant-judge_members-loop-end
invariant-judge_members-loop-end l = record {
  low : l.at ≤ length l.m;
  so_far : Judging l.table.octets.now l.w l.m l.indefinite l.level l.came l.total l.at l.j;
}

abbrev pub decreases-judge_members-loop-end : goal.decreases-judge_members-loop-end
decreases-judge_members-loop-end l = length l.m - l.at
