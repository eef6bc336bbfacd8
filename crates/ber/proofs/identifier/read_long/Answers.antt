-- `ber::identifier::read_long` meets its contract.
-- Assumes nothing.
use Rattle.std.proofs.Common.{arith}
use Rattle.ber.proofs.Told.{long_cut}
use Rattle.ber.proofs.identifier.read_long.Goals as goal

pub returns : goal.returns
returns c = long_cut c.loop-i.i c.loop-i.n c.args.m.now c.requires.0 (rw c.requires.1 at c.requires.2) c.loop-i.invariant.read (omega arith)
