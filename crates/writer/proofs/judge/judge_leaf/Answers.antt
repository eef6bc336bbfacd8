-- A leaf: its shape, the levels that are left, its record, and how many octets are written of it.
-- Assumes nothing.
use Rattle.std.proofs.Common.{◌∙◌}
use Rattle.writer.proofs.Simple.{leaf_shape, leaf_level, leaf_ill, leaf_done}
use Rattle.writer.proofs.judge.judge_leaf.Goals as goal

pub returns-in_default : goal.returns-in_default
returns-in_default c T t same =
    let a = c.args in
    c.unfit.ensures ∙ leaf_shape a.table.now a.e a.v.now a.at a.level c.requires.1 c.requires.2 T t same c.in_default.ensures

pub returns-then-level-eq0 : goal.returns-then-level-eq0
returns-then-level-eq0 c T t same =
    let a = c.args in
    c.unfit-then-level-eq0.ensures ∙ leaf_level a.table.now a.e a.v.now a.at a.level c.requires.1 c.requires.2 T t same _ c.in-Some.ensures c.if-level-eq0.true

pub returns-then-not-suits : goal.returns-then-not-suits
returns-then-not-suits c T t same =
    let a = c.args in
    c.unfit-then-not-suits.ensures ∙ leaf_ill a.table.now a.e a.v.now a.at a.level c.requires.1 c.requires.2 T t same _ c.in-Some.ensures c.if-level-eq0.false _ c.suits.ensures
    c.if-not-suits.true

pub returns : goal.returns
returns c T t same =
    let a = c.args in
    leaf_done a.table.now a.e a.v.now a.at a.level c.requires.1 c.requires.2 T t same c.in-Some.x c.in-Some.ensures c.if-level-eq0.false _ c.suits.ensures c.if-not-suits.false
    c.requires.3 _ c.grow.ensures.0
