-- By the leaf of the kind.
-- Assumes nothing.
use Rattle.std.proofs.Common.{rules}
use Rattle.writer.proofs.Leaves.{time_left, null_measured}
use Rattle.writer.proofs.contents.measure.Goals as goal

pub returns-in-Null : goal.returns-in-Null
returns-in-Null c = search (rules, null_measured)

pub returns-in_default : goal.returns-in_default
returns-in_default c = search (rules, time_left)
