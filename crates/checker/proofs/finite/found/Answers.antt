-- A body goes by its kind.
use Rattle.std.proofs.Common.{◌∙◌, refl, arith}
use Rattle.kinds.proofs.Same.{differs, one_of, none_of}
use Rattle.checker.proofs.Rules.{near_counted, near_span, finite_members, finite_choice, finite_other}
use Rattle.checker.proofs.finite.found.Goals as goal

pub each_flagged-requires : goal.each_flagged-requires
each_flagged-requires c = rw c.parts.ensures (near_span _ _ _ (λ i. omega (arith, c.type_inv.table i)) (omega arith))

pub returns-in-Sequence : goal.returns-in-Sequence
returns-in-Sequence c = λ r x. rw c.parts.ensures at c.each_flagged.ensures ∙ finite_members x.entered _ (one_of c.in-Sequence.is)

pub one_flagged-requires : goal.one_flagged-requires
one_flagged-requires c =
    rw c.alternatives.ensures (near_counted c.args.table.now c.args.e.own 1 (λ i. omega (arith, c.type_inv.table i)) (omega arith) (omega arith))

pub returns-in-Choice : goal.returns-in-Choice
returns-in-Choice c = λ r x. rw c.alternatives.ensures at c.one_flagged.ensures ∙ finite_choice x.entered _ (rw c.in-Choice.is refl)

pub returns-in_default : goal.returns-in_default
returns-in_default c = λ r x. finite_other x.entered _ (none_of c.in_default.not-Sequence c.in_default.not-Set) (differs c.in_default.not-Choice)
