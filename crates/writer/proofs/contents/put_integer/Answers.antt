-- By the part of the buffer that comes back.
-- Assumes nothing.
use Rattle.std.proofs.Common.{w64}
use mir.ValLaws.{to_z-of_z}
use Rattle.writer.proofs.Stores.{integer_put}
use Rattle.writer.proofs.contents.put_integer.Goals as goal

pub returns : goal.returns
returns c =
    let a = c.args in
    integer_put a.buf.now a.to a.size c.requires.1 a.z _ _ c.ranges.z (to_z-of_z w64 a.z c.ranges.z) c.requires.0 c.put.ensures
