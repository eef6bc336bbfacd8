-- Its shape, the levels that are left, and then its kind.
-- Assumes nothing.
use Rattle.writer.proofs.Awaited.{other_shape, other_level, other_ill}
use Rattle.writer.proofs.judge.why_not_awaited.Goals as goal

pub returns-then-not-shaped : goal.returns-then-not-shaped
returns-then-not-shaped c T t f = let a = c.args in other_shape a.v.now a.at a.level c.requires.1 T t c.if-not-shaped.ensures

pub returns-then-level-eq0 : goal.returns-then-level-eq0
returns-then-level-eq0 c T t f = let a = c.args in other_level a.v.now a.at a.level c.requires.1 T t c.if-not-shaped.ensures c.if-level-eq0.true

pub returns : goal.returns
returns c T t f = let a = c.args in other_ill a.v.now a.at a.level c.requires.1 T t c.if-not-shaped.ensures f c.if-level-eq0.false
