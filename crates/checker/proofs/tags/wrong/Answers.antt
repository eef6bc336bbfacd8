-- The ways through the rule of the tags.
use Rattle.std.proofs.Common.{◌∙◌, sym, eq-eqb, ne_eqb}
use Rattle.kinds.specs.declared.Kind.TheVariants.{Choice}
use Rattle.kinds.proofs.Same.{is_kind, not_kind}
use Rattle.checker.proofs.Rules.{wrong_lacking, wrong_explicit, wrong_none, wrong_own_lem}
use Rattle.checker.proofs.tags.wrong.Goals as goal

pub returns-then-e-eq-LACKING : goal.returns-then-e-eq-LACKING
returns-then-e-eq-LACKING c = λ r x. wrong_lacking x.entered c.if-e-eq-LACKING.true

pub returns-then-explicit_universal : goal.returns-then-explicit_universal
returns-then-explicit_universal c = λ r x. wrong_explicit x.entered c.if-e-eq-LACKING.false (sym c.explicit_universal.ensures ∙ c.if-explicit_universal.true)

pub returns-then-eq : goal.returns-then-eq
returns-then-eq c = λ r x.
    wrong_none x.entered c.if-e-eq-LACKING.false (sym c.explicit_universal.ensures ∙ c.if-explicit_universal.false) (eq-eqb _ _ (is_kind c.args.e.kind Choice c.eq.ensures c.if-eq.true))

pub returns : goal.returns
returns c = λ r x.
    rw c.tag_place.ensures.0 at c.wrong_own.ensures
    ∙ wrong_own_lem x.entered c.if-e-eq-LACKING.false
    (sym c.explicit_universal.ensures ∙ c.if-explicit_universal.false)
    (ne_eqb _ _ (not_kind c.args.e.kind Choice c.eq.ensures c.if-eq.false))
