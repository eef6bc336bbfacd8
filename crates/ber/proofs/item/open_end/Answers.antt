-- `ber::item::open_end` meets its contract.
-- Assumes nothing.
use Rattle.std.proofs.Common.{◌+◌, ◌<◌, ◌≤◌, length, arith}
use Rattle.ber.proofs.Places.{part_to_end}
use Rattle.ber.proofs.Skipping.{Stands, pass_first, pass_cut, pass_mark, pass_refused, pass_sized, pass_opened, pass_end}
use Rattle.ber.proofs.item.open_end.Goals as goal

-- an indefinite item is entered
opened : (c : goal.After-struct_known-1)
    → let x = c.in-Ok.x in (0 < x.start) × (c.loop-open.at + x.start ≤ length c.args.m.now)
    × Stands c.args.m.now c.args.start (c.loop-open.at + x.start) (c.loop-open.«open» + 1)
opened c = pass_opened c.args.m.now c.args.start c.loop-open.at _ c.loop-open-test.true c.loop-open.invariant.stands
    c.if-m-at-eq0.false _ (rw part_to_end at c.extent.ensures) _ c.in-Ok.is c.loop-open.invariant.there c.if-x.true

-- a definite item is passed over
passed : (c : goal.After-struct_known-else-x-1)
    → let x = c.in-Ok.x in (0 < x.end) × (c.loop-open.at + x.end ≤ length c.args.m.now)
    × Stands c.args.m.now c.args.start (c.loop-open.at + x.end) c.loop-open.«open»
passed c = pass_sized c.args.m.now c.args.start c.loop-open.at _ c.loop-open-test.true c.loop-open.invariant.stands
    c.if-m-at-eq0.false _ (rw part_to_end at c.extent.ensures) _ c.in-Ok.is c.loop-open.invariant.there c.if-x.false

pub loop-open-init : goal.loop-open-init
loop-open-init c = record { there = c.requires; few = omega arith; stands = pass_first _ _ }

pub returns-then-left-lt2 : goal.returns-then-left-lt2
returns-then-left-lt2 c = pass_cut c.args.m.now c.args.start _ _ c.loop-open-test.true c.loop-open.invariant.stands c.if-left-lt2.true

pub loop-open-preserved-then-m-at-eq0 : goal.loop-open-preserved-then-m-at-eq0
loop-open-preserved-then-m-at-eq0 c = record {
  there = omega arith;
  few = omega arith;
  stands = pass_mark c.args.m.now c.args.start _ _ c.loop-open-test.true c.loop-open.invariant.stands c.if-m-at-eq0.true (omega arith);
}

pub returns-in_default : goal.returns-in_default
returns-in_default c = pass_refused c.args.m.now c.args.start c.loop-open.at _ c.loop-open-test.true c.loop-open.invariant.stands
    c.if-m-at-eq0.false _ (rw part_to_end at c.extent.ensures) _ c.in_default.is

pub overflow_add-at-then-x : goal.overflow_add-at-then-x
overflow_add-at-then-x c =
    let t = opened c in omega (arith, c.well_formed)

pub loop-open-smaller-then-x : goal.loop-open-smaller-then-x
loop-open-smaller-then-x c = let t = opened c in omega arith

pub loop-open-preserved-then-x : goal.loop-open-preserved-then-x
loop-open-preserved-then-x c = let t = opened c in record { there = t.1; few = omega arith; stands = t.2 }

pub overflow_add-at-else-x : goal.overflow_add-at-else-x
overflow_add-at-else-x c = let t = passed c in omega (arith, c.well_formed)

pub loop-open-smaller : goal.loop-open-smaller
loop-open-smaller c = let t = passed c in omega arith

pub loop-open-preserved : goal.loop-open-preserved
loop-open-preserved c = let t = passed c in record { there = t.1; few = omega arith; stands = t.2 }

pub returns : goal.returns
returns c = pass_end c.args.m.now c.args.start _ _ c.loop-open.invariant.stands c.loop-open-test.false c.loop-open.invariant.there
