-- What stands from i on, after the last octets of u, is what is to be put.
-- Assumes nothing.
use Rattle.std.proofs.Common.{◌≡◌, drop, length, of_z, w64}
use Rattle.simple.specs.Integers.{last_before, last_octets}
use Rattle.simple.proofs.integer.put.Given as goal

abbrev pub invariant-loop-i : goal.invariant-loop-i
invariant-loop-i l = last_before l.i l.u (drop l.i l.part) ≡ last_octets (length l.initial.part) (of_z w64 l.z)
