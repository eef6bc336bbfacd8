-- What was copied are the eight octets of z.
-- Assumes nothing.
use Rattle.std.proofs.Common.{◌∙◌, w64}
use mir.ValLaws.{to_z-of_z}
use Rattle.simple.proofs.IntegerCode.{eight_filled}
use Rattle.simple.proofs.integer.put_eight.Goals as goal

pub returns : goal.returns
returns c =
    eight_filled _ _ c.ranges.z c.if-part-ne8.false
    (c.copy_from_slice.ensures.after ∙ (rw (to_z-of_z w64 c.args.z c.ranges.z) at c.to_be_bytes.ensures))
