-- `cases::text::spell`: the octets passed are spelled.
-- Assumes nothing.
use Rattle.std.proofs.Common.{◌≡◌, ◌*◌, take}
use Rattle.cases.specs.Output.{hexadecimal}
use Rattle.cases.proofs.text.spell.Given as goal

abbrev pub invariant-loop-i : goal.invariant-loop-i
invariant-loop-i l = take (2 * l.i) l.digits ≡ hexadecimal (take l.i l.octets)
