-- By the ways out.
-- Assumes nothing.
use Rattle.std.proofs.Common.{sym, ◌∙◌}
use Rattle.std.proofs.lemmas.Option.{none-some}
use Rattle.kinds.proofs.Same.{one_of, none_of}
use Rattle.writer.proofs.Alone.{lone_long, lone_unmarked, lone_unshaped, lone_leaf, lone_members, lone_list, lone_none, lone_no_kind}
use Rattle.writer.proofs.lone.is_lone.Goals as goal

pub returns-then-v-gt-LONGEST_VALUE : goal.returns-then-v-gt-LONGEST_VALUE
returns-then-v-gt-LONGEST_VALUE c = lone_long c.args.v.now c.if-v-gt-LONGEST_VALUE.true

pub returns-then-not-marked : goal.returns-then-not-marked
returns-then-not-marked c = lone_unmarked c.args.v.now c.if-v-gt-LONGEST_VALUE.false _ c.marked.ensures c.if-not-marked.true

pub returns-in_default : goal.returns-in_default
returns-in_default c =
    lone_no_kind c.args.v.now c.if-v-gt-LONGEST_VALUE.false (c.marked.ensures.yes c.if-not-marked.false)
    (λ j e. none-some _ (sym c.in_default.is ∙ (c.of.ensures j).1 e))

pub returns-in_default-measure : goal.returns-in_default-measure
returns-in_default-measure c =
    let k = (c.of.ensures _).0 c.in-Some.is in
    lone_unshaped c.args.v.now c.if-v-gt-LONGEST_VALUE.false (c.marked.ensures.yes c.if-not-marked.false)
    (rw k at (sym c.constructed.ensures ∙ c.if-not-constructed.true)) (rw k at c.in_default-measure.ensures)

pub returns-then-not-constructed : goal.returns-then-not-constructed
returns-then-not-constructed c =
    let k = (c.of.ensures _).0 c.in-Some.is in
    lone_leaf c.args.v.now c.if-v-gt-LONGEST_VALUE.false (c.marked.ensures.yes c.if-not-marked.false)
    (rw k at (sym c.constructed.ensures ∙ c.if-not-constructed.true)) _ (rw k at c.in-Some-measure.ensures.0.ends)

pub returns-in-Sequence : goal.returns-in-Sequence
returns-in-Sequence c =
    let k = (c.of.ensures _).0 c.in-Some.is in
    lone_members c.args.v.now c.if-v-gt-LONGEST_VALUE.false (c.marked.ensures.yes c.if-not-marked.false)
    (rw k at (one_of c.in-Sequence.is)) _ c.no_member.ensures

pub returns-in-SequenceOf : goal.returns-in-SequenceOf
returns-in-SequenceOf c =
    let k = (c.of.ensures _).0 c.in-Some.is in
    lone_list c.args.v.now c.if-v-gt-LONGEST_VALUE.false (c.marked.ensures.yes c.if-not-marked.false)
    (rw k at (one_of c.in-SequenceOf.is)) _ c.no_element.ensures

pub returns-in_default-kind : goal.returns-in_default-kind
returns-in_default-kind c =
    let d = c.in_default-kind in
    let k = (c.of.ensures _).0 c.in-Some.is in
    lone_none c.args.v.now c.if-v-gt-LONGEST_VALUE.false (c.marked.ensures.yes c.if-not-marked.false)
    (rw k at (sym c.constructed.ensures ∙ c.if-not-constructed.false)) (rw k at (none_of d.not-Sequence d.not-Set))
    (rw k at (none_of d.not-SequenceOf d.not-SetOf))
