-- `ber::length::read` meets its contract.
-- Assumes nothing.
use Rattle.std.proofs.Common.{arith}
use Rattle.octets.proofs.Permutations.{all_octets}
use Rattle.ber.proofs.Places.{one_back}
use Rattle.ber.proofs.Told.{length_ruled}
use Rattle.ber.proofs.length.read.Goals as goal

pub returns : goal.returns
returns c = length_ruled c.args.m.now _ _ (all_octets c.args.m.now λ i. omega (arith, c.type_inv.m i)) λ l. rw one_back at (c.read_other.ensures l)
