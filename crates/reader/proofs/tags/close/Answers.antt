-- `reader::tags::close` meets its contract.
-- Assumes nothing.
use Rattle.std.proofs.Common.{sym, refl, arith}
use Rattle.std.proofs.Math.Seq.{length-take-le}
use Rattle.reader.proofs.Wrapping.{close_none, close_end, close_more, close_broken, close_turn, close_done}
use Rattle.reader.proofs.tags.close.Goals as goal

pub loop-j-init : goal.loop-j-init
loop-j-init c = record { low = c.requires.1; closing = close_none _ _ _ _ _ _ c.requires.4 }

pub slice_bounds-around-end : goal.slice_bounds-around-end
slice_bounds-around-end c = sym (length-take-le _ _ (close_end _ _ _ _ _ _ _ _ _ c.loop-j.invariant.closing))

pub overflow_sub-left : goal.overflow_sub-left
overflow_sub-left c = omega (arith, close_end _ _ _ _ _ _ _ _ _ c.loop-j.invariant.closing, c.loop-j.invariant.low)

pub loop-j-preserved : goal.loop-j-preserved
loop-j-preserved c =
    let l = c.loop-j.invariant in
    let (t, u) = close_turn _ _ _ _ _ _ _ _ _ l.closing l.low c.loop-j-test.true (omega (arith, c.requires.0)) _ refl _ refl _ c.read.ensures _
    (rw c.in-Ok-Some.field-0-is at c.in-Ok-Some.is) in
    record { low = u; closing = t }

pub returns-in-Ok-None : goal.returns-in-Ok-None
returns-in-Ok-None c =
    let l = c.loop-j.invariant in
    close_more _ _ _ _ _ _ _ _ _ l.closing l.low c.loop-j-test.true (omega (arith, c.requires.0)) _ refl _ refl _ c.read.ensures
    (rw c.in-Ok-None.field-0-is at c.in-Ok-None.is)

pub returns-in-Err : goal.returns-in-Err
returns-in-Err c =
    let l = c.loop-j.invariant in
    close_broken _ _ _ _ _ _ _ _ _ l.closing l.low c.loop-j-test.true (omega (arith, c.requires.0)) _ refl _ refl _ c.read.ensures _ c.in-Err.is

pub returns : goal.returns
returns c = close_done _ _ _ _ _ _ _ _ _ c.loop-j.invariant.closing c.loop-j-test.false c.loop-j.invariant.low c.requires.3
