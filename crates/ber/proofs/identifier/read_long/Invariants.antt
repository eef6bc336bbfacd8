-- What holds while `ber::identifier::read_long` reads octets: what those before i spell.
-- Assumes nothing.
use Rattle.std.proofs.Common.{◌<◌}
use Rattle.ber.proofs.Told.{Following}
use Rattle.ber.proofs.identifier.read_long.Given as goal

abbrev pub invariant-loop-i : goal.invariant-loop-i
invariant-loop-i l = record { small : l.n < 65537; read : Following l.m l.i l.n }
