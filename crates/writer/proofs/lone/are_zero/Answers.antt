-- By one octet more.
-- Assumes nothing.
use Rattle.std.proofs.Common.{◌+◌, arith}
use Rattle.writer.proofs.Alone.{taken_long, taken_is, zero_turn, zero_end}
use Rattle.writer.proofs.lone.are_zero.Goals as goal

pub loop-x-preserved : goal.loop-x-preserved
loop-x-preserved c =
    let a = c.args in
    let i = c.loop-x.x-index in
    let l = taken_long a.v.now a.p a.n c.requires.1 in
    let x = taken_is a.v.now a.p a.n i _ (omega arith) c.from-sum.ensures in
    (omega (arith, c.type_inv.v (a.p + i)), zero_turn a.v.now a.p a.n i c.loop-x.sum _ c.loop-x.invariant.1 _ (omega arith) x)

pub returns : goal.returns
returns c =
    let a = c.args in
    let l = taken_long a.v.now a.p a.n c.requires.1 in
    zero_end a.v.now a.p a.n c.loop-x.x-index c.loop-x.sum _ c.loop-x.invariant.1 (omega arith)
