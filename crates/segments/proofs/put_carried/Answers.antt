-- `segments::put_carried` meets its contract.
-- Assumes nothing.
use Rattle.segments.specs.Segments.{kind_of}
use Rattle.segments.proofs.SegmentCode.{carried_is, carried_none}
use Rattle.segments.proofs.put_carried.Goals as goal

pub returns-then-c-one : goal.returns-then-c-one
returns-then-c-one c = carried_none (kind_of c.args.bits) _ _ c.least-one.ensures c.if-c-one.true _ _

pub returns : goal.returns
returns c = rw (carried_is (kind_of c.args.bits) c.args.c.now _ c.least-one.ensures) at c.put.ensures
