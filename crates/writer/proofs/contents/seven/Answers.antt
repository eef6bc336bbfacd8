-- By the octets that are taken.
-- Assumes nothing.
use Rattle.writer.proofs.Leaves.{seven_is}
use Rattle.writer.proofs.contents.seven.Goals as goal

pub returns : goal.returns
returns c = seven_is c.args.v.now c.args.p _ c.of.ensures
