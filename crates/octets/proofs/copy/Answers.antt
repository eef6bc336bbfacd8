-- Before the first turn all octets are left to copy.
-- Assumes nothing.
use Rattle.std.proofs.Common.{sym}
use Rattle.octets.proofs.Buffers.{sets_all}
use Rattle.octets.proofs.copy.Goals as goal

pub loop-i-init : goal.loop-i-init
loop-i-init c = record {
  same = sym c.if-c-part.true;
  rest = sets_all _ _ (sym c.if-c-part.true);
}
