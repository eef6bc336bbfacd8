-- The fill and the octets so far are read.
-- Assumes nothing.
use Rattle.simple.proofs.IntegerCode.{Extended}
use Rattle.simple.proofs.integer.of.Given as goal

abbrev pub invariant-loop-x : goal.invariant-loop-x
invariant-loop-x l = Extended l.c l.rest l.x-index l.u
