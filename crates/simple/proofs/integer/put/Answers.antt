-- Nothing is left in front of what was put.
-- Assumes nothing.
use Rattle.std.proofs.Common.{w64, arith}
use mir.ValLaws.{to_z-of_z}
use Rattle.simple.proofs.IntegerCode.{last_end}
use Rattle.simple.proofs.integer.put.Goals as goal

pub returns : goal.returns
returns c = last_end _ _ _ (omega arith) (rw (to_z-of_z w64 c.args.z c.ranges.z) at c.loop-i.invariant)
