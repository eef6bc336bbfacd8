-- `ber::item::extent` meets its contract.
-- Assumes nothing.
use Rattle.std.proofs.Common.{length}
use Rattle.ber.proofs.Skipping.{extent_here}
use Rattle.ber.proofs.item.extent.Goals as goal

pub returns : goal.returns
returns c = rw (extent_here c.args.m.now c.read.result c.read.ensures c.in_ok-i.i c.in_ok-i.was) (c.read-2.ensures.0 (length c.args.m.now))
