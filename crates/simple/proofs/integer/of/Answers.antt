-- By how far the octets are read.
-- Assumes nothing.
use Rattle.std.proofs.Common.{◌∙◌, w64, arith, rules}
use mir.Val.{SFits}
use mir.ValLaws.{to_z-of_z}
use Rattle.simple.proofs.IntegerCode.{extended_first, extended_next, extended_last}
use Rattle.simple.proofs.integer.of.Goals as goal

pub loop-x-init : goal.loop-x-init
loop-x-init c =
    extended_first _ _ c.from.result _ c.in-Some.ensures.cases.0 (omega arith) (cc) c.from-2.ensures

pub loop-x-preserved : goal.loop-x-preserved
loop-x-preserved c =
    extended_next _ _ _ _ _ (omega arith) (omega arith) c.from-in-loop-x.ensures (omega arith) c.loop-x.invariant

pub returns : goal.returns
returns c =
    let f : SFits w64 c.cast_signed.result = search rules in
    to_z-of_z w64 _ f ∙ c.cast_signed.ensures
    ∙ extended_last _ _ _ _ c.in-Some.ensures.cases.1 (omega arith) (omega arith) (omega arith) c.loop-x.invariant
