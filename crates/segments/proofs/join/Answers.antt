-- `segments::join` meets its contract.
-- Assumes nothing.
use Rattle.std.proofs.Common.{arith}
use Rattle.segments.proofs.JoinCode.{joins_first, joins_none, joins_over, joins_mark, joins_unread, joins_further, joins_entered, joins_opened, joins_added}
use Rattle.segments.proofs.join.Goals as goal

pub loop-at-init : goal.loop-at-init
loop-at-init c = record { there = omega arith; inside = omega arith; few = omega arith; joins = joins_first _ _ _ _ }

pub returns-then-open-eq0 : goal.returns-then-open-eq0
returns-then-open-eq0 c =
    joins_none (joins_mark c.loop-at.invariant.joins c.loop-at.invariant.inside c.loop-at-test.true c.if-first-eq0.true _ c.min-at.ensures) (omega arith) c.if-open-eq0.true

pub loop-at-preserved-else-open-eq0 : goal.loop-at-preserved-else-open-eq0
loop-at-preserved-else-open-eq0 c = record {
  there = omega arith;
  inside = omega (arith, c.if-open-eq0.false);
  few = omega arith;
  joins = joins_mark c.loop-at.invariant.joins c.loop-at.invariant.inside c.loop-at-test.true c.if-first-eq0.true _ c.min-at.ensures;
}

pub loop-at-smaller-then-x : goal.loop-at-smaller-then-x
loop-at-smaller-then-x c = let (low, mid, high) = joins_further c.loop-at.invariant.joins c.loop-at.invariant.inside c.loop-at-test.true c.if-first-eq0.false c.read.ensures.0 c.in-Ok.is in omega arith

pub loop-at-preserved-then-x : goal.loop-at-preserved-then-x
loop-at-preserved-then-x c =
    let (low, mid, high) = joins_further c.loop-at.invariant.joins c.loop-at.invariant.inside c.loop-at-test.true c.if-first-eq0.false c.read.ensures.0 c.in-Ok.is in
    record {
      there = omega arith;
      inside = omega arith;
      few = omega arith;
      joins = joins_opened c.loop-at.invariant.joins c.loop-at.invariant.inside c.loop-at-test.true c.if-first-eq0.false c.read.ensures.0 c.in-Ok.is c.if-first-ge32.true c.if-x.true;
    }

pub loop-at-smaller-else-x : goal.loop-at-smaller-else-x
loop-at-smaller-else-x c = let (low, mid, high) = joins_further c.loop-at.invariant.joins c.loop-at.invariant.inside c.loop-at-test.true c.if-first-eq0.false c.read.ensures.0 c.in-Ok.is in omega arith

pub loop-at-preserved-else-x : goal.loop-at-preserved-else-x
loop-at-preserved-else-x c =
    let (low, mid, high) = joins_further c.loop-at.invariant.joins c.loop-at.invariant.inside c.loop-at-test.true c.if-first-eq0.false c.read.ensures.0 c.in-Ok.is in
    record {
      there = omega arith;
      inside = c.loop-at.invariant.inside;
      few = omega arith;
      joins = joins_entered c.loop-at.invariant.joins c.loop-at.invariant.inside c.loop-at-test.true c.if-first-eq0.false c.read.ensures.0 c.in-Ok.is c.if-first-ge32.true c.if-x.false;
    }

pub slice_bounds-c-count : goal.slice_bounds-c-count
slice_bounds-c-count c = (joins_further c.loop-at.invariant.joins c.loop-at.invariant.inside c.loop-at-test.true c.if-first-eq0.false c.read.ensures.0 c.in-Ok.is).1

pub slice_bounds-c-start : goal.slice_bounds-c-start
slice_bounds-c-start c = let (low, mid, high) = joins_further c.loop-at.invariant.joins c.loop-at.invariant.inside c.loop-at-test.true c.if-first-eq0.false c.read.ensures.0 c.in-Ok.is in omega arith

pub slice_bounds-c-end : goal.slice_bounds-c-end
slice_bounds-c-end c = (joins_further c.loop-at.invariant.joins c.loop-at.invariant.inside c.loop-at-test.true c.if-first-eq0.false c.read.ensures.0 c.in-Ok.is).2

pub loop-at-smaller : goal.loop-at-smaller
loop-at-smaller c = let (low, mid, high) = joins_further c.loop-at.invariant.joins c.loop-at.invariant.inside c.loop-at-test.true c.if-first-eq0.false c.read.ensures.0 c.in-Ok.is in omega arith

pub loop-at-preserved : goal.loop-at-preserved
loop-at-preserved c =
    let (low, mid, high) = joins_further c.loop-at.invariant.joins c.loop-at.invariant.inside c.loop-at-test.true c.if-first-eq0.false c.read.ensures.0 c.in-Ok.is in
    record {
      there = high;
      inside = c.loop-at.invariant.inside;
      few = omega arith;
      joins = joins_added c.loop-at.invariant.joins c.loop-at.invariant.inside c.loop-at-test.true c.if-first-eq0.false c.read.ensures.0 c.in-Ok.is c.if-first-ge32.false c.put_carried-next.ensures.0
          c.put_carried-next.ensures.1 c.unused_in-unused.ensures;
    }

pub returns-in_default : goal.returns-in_default
returns-in_default c =
    joins_unread c.loop-at.invariant.joins c.loop-at.invariant.inside c.loop-at-test.true c.if-first-eq0.false c.read.ensures.0 c.in_default.is (omega arith)

pub returns : goal.returns
returns c = joins_over c.loop-at.invariant.joins c.loop-at.invariant.inside c.loop-at.invariant.there c.loop-at-test.false
