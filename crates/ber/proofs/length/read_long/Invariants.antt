-- What holds while `ber::length::read_long` reads digits: what those before p spell.
-- Assumes nothing.
use Rattle.std.proofs.Common.{◌<◌}
use Rattle.ber.proofs.Told.{Digits}
use Rattle.ber.proofs.length.read_long.Given as goal

abbrev pub invariant-loop-p : goal.invariant-loop-p
invariant-loop-p l = record { small : l.n < 4294967296; read : Digits l.m l.at l.k l.n l.p }
