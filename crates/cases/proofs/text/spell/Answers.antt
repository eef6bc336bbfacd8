-- `cases::text::spell`: two digits for each octet passed.
-- Assumes nothing.
use Rattle.std.proofs.Common.{◌*◌, refl, arith, ◌∙◌}
use Rattle.std.proofs.lemmas.List.{take_all}
use Rattle.cases.specs.Output.{hexadecimal}
use Rattle.cases.proofs.Digits.{hexadecimal_more}
use Rattle.cases.proofs.text.spell.Goals as goal

pub loop-i-init : goal.loop-i-init
unfolding hexadecimal
loop-i-init c = refl

pub loop-i-preserved : goal.loop-i-preserved
loop-i-preserved c =
    rw (c.digit.ensures, c.digit-in-loop-i.ensures)
    (hexadecimal_more c.args.octets.now c.loop-i.digits c.loop-i.i c.loop-i-test.true (c.loop-i.auto.digits ∙ c.requires) c.loop-i.invariant)

pub returns : goal.returns
returns c =
    let e = c.loop-i.invariant in
    rw (← take_all (2 * c.loop-i.i) c.loop-i.digits (omega (arith, c.loop-i.auto.digits, c.requires)), e, take_all c.loop-i.i c.args.octets.now c.loop-i-test.false) refl
