-- `segments::all` and `segment` meet their contracts, by the depths that are left: one law for each way through them.
-- Assumes nothing.
use Rattle.std.proofs.Common.{rules, ℕ, ap, Ok, ◌≡◌, ◌-◌, length, ◌∙◌, arith}
use Rattle.segments.specs.Segments.{kind_of}
use Rattle.ber.proofs.Places.{part_to_end}
use Rattle.segments.proofs.SegmentCode.{mapped_ok, mapped_err, going_first, going_broken, going_over, going_untagged, going_unused, going_refused, going_turn, Turned, tag_read}
use Rattle.segments.proofs.SegmentCode.{begun, segment_deep, segment_unread, segment_part, segment_open, segment_whole, segment_refused, segment_read}
use Rattle.segments.proofs.+all_segment.Goals as goal

pub all-loop-over-init : goal.all-loop-over-init
all-loop-over-init t c = record {
  there = omega arith;
  near = omega arith;
  low = omega arith;
  high = omega arith;
  going = going_first _ _ _ _ _ c.least-one.ensures;
}

pub all-returns-in_err-over : goal.all-returns-in_err-over
all-returns-in_err-over t c =
    let (f, p, q) = mapped_err _ c.read.result c.in_err-over.was c.map_err.ensures.cases in
    let z : c.in_err-over.field-0.0 ≡ record { cause = f; left = length c.args.m.now - c.loop-over.at } = search (rules, q) in
    rw (← rw (← z) at (going_broken c.loop-over.invariant.going c.read.ensures p)) (search rules)

pub all-overflow_sub-result : goal.all-overflow_sub-result
all-overflow_sub-result t c = (going_over c.loop-over.invariant.going c.read.ensures c.loop-over.invariant.there (mapped_ok _ c.read.result c.in_ok-over.was c.map_err.ensures.cases ∙ ap Ok c.in-Some.is)).0

pub all-returns-in-Some : goal.all-returns-in-Some
all-returns-in-Some t c = (going_over c.loop-over.invariant.going c.read.ensures c.loop-over.invariant.there (mapped_ok _ c.read.result c.in_ok-over.was c.map_err.ensures.cases ∙ ap Ok c.in-Some.is)).2

pub all-returns-in_err-i : goal.all-returns-in_err-i
all-returns-in_err-i t c =
    let (f, p, q) = mapped_err _ c.read_tag.result c.in_err-i.was c.map_err-in-loop-over.ensures.cases in
    let z : c.in_err-i.field-0.0 ≡ record { cause = f; left = length c.args.m.now - c.loop-over.at } = search (rules, q) in
    rw (← rw (← z) at (going_untagged c.loop-over.invariant.going c.read.ensures (mapped_ok _ c.read.result c.in_ok-over.was c.map_err.ensures.cases ∙ ap Ok c.in_default.is) (rw part_to_end at c.read_tag.ensures) p)) (search rules)

pub all-returns-then-unused-gt0 : goal.all-returns-then-unused-gt0
all-returns-then-unused-gt0 t c =
    going_unused c.loop-over.invariant.going c.read.ensures
    (mapped_ok _ c.read.result c.in_ok-over.was c.map_err.ensures.cases ∙ ap Ok c.in_default.is)
    (rw part_to_end at c.read_tag.ensures) (mapped_ok _ c.read_tag.result c.in_ok-i.was c.map_err-in-loop-over.ensures.cases) c.if-unused-gt0.true

pub all-segment-requires : goal.all-segment-requires
all-segment-requires t c =
    let x = tag_read (kind_of c.args.bits) _ _ (rw part_to_end at c.read_tag.ensures) _ (mapped_ok _ c.read_tag.result c.in_ok-i.was c.map_err-in-loop-over.ensures.cases) in
    (omega arith, rw part_to_end x.0)

pub all-returns-in_err-x : goal.all-returns-in_err-x
all-returns-in_err-x t c =
    rw (← going_refused c.loop-over.invariant.going c.read.ensures
    (mapped_ok _ c.read.result c.in_ok-over.was c.map_err.ensures.cases ∙ ap Ok c.in_default.is)
    (rw part_to_end at c.read_tag.ensures) (mapped_ok _ c.read_tag.result c.in_ok-i.was c.map_err-in-loop-over.ensures.cases) c.if-unused-gt0.false (rw part_to_end at c.segment.ensures) c.in_err-x.was) (search rules)

pub all-overflow_add-at : goal.all-overflow_add-at
all-overflow_add-at t c =
    let x = going_turn c.loop-over.invariant.going c.read.ensures
    (mapped_ok _ c.read.result c.in_ok-over.was c.map_err.ensures.cases ∙ ap Ok c.in_default.is)
    (rw part_to_end at c.read_tag.ensures) (mapped_ok _ c.read_tag.result c.in_ok-i.was c.map_err-in-loop-over.ensures.cases) c.if-unused-gt0.false (rw part_to_end at c.segment.ensures) c.least-one.ensures c.in_ok-x.was in
    omega (arith, x.1, c.well_formed)

-- a segment was read
turned : (t : ℕ) (c : goal.all-After-struct_known-in-loop-over-2-1 t)
    → let a = c.args in Turned (kind_of a.bits) a.depth a.indefinite a.m.now c.least-one.result c.loop-over.at c.loop-over.size c.in_ok-x.x
turned t c =
    going_turn c.loop-over.invariant.going c.read.ensures
    (mapped_ok _ c.read.result c.in_ok-over.was c.map_err.ensures.cases ∙ ap Ok c.in_default.is)
    (rw part_to_end at c.read_tag.ensures) (mapped_ok _ c.read_tag.result c.in_ok-i.was c.map_err-in-loop-over.ensures.cases) c.if-unused-gt0.false (rw part_to_end at c.segment.ensures) c.least-one.ensures c.in_ok-x.was

pub all-overflow_add-size : goal.all-overflow_add-size
all-overflow_add-size t c =
    let x = turned t c in
    omega (arith, x.1, x.3, c.well_formed)

pub all-loop-over-smaller : goal.all-loop-over-smaller
all-loop-over-smaller t c =
    let x = turned t c in
    omega (arith, x.0, x.1)

pub all-loop-over-preserved : goal.all-loop-over-preserved
all-loop-over-preserved t c =
    let x = turned t c in
    record { there = x.1; near = omega (arith, x.4); low = omega (arith, x.2); high = omega (arith, x.3); going = x.5 }

pub segment-returns-then-depth-eq0 : goal.segment-returns-then-depth-eq0
segment-returns-then-depth-eq0 t c = segment_deep (kind_of c.args.bits) c.args.m.now _ c.if-depth-eq0.true

pub segment-returns-in_err-x : goal.segment-returns-in_err-x
segment-returns-in_err-x t c =
    let (f, p, q) = mapped_err _ c.read.result c.in_err-x.was c.map_err.ensures.cases in
    let z : c.in_err-x.field-0.0 ≡ record { cause = f; left = length c.args.m.now } = search (rules, q) in
    let b = begun c.args.from c.args.constructed c.requires c.if-depth-eq0.false in
    rw (← rw (← z) at (segment_unread b c.read.ensures.0 p)) (search rules)

pub segment-slice_bounds-c-count : goal.segment-slice_bounds-c-count
segment-slice_bounds-c-count t c =
    let b = begun c.args.from c.args.constructed c.requires c.if-depth-eq0.false in
    let x = mapped_ok _ c.read.result c.in_ok-x.was c.map_err.ensures.cases in
    (segment_part b c.read.ensures.0 x).0

pub segment-slice_bounds-c-start : goal.segment-slice_bounds-c-start
segment-slice_bounds-c-start t c =
    let b = begun c.args.from c.args.constructed c.requires c.if-depth-eq0.false in
    let x = mapped_ok _ c.read.result c.in_ok-x.was c.map_err.ensures.cases in
    omega (arith, segment_part b c.read.ensures.0 x)

pub segment-slice_bounds-c-end : goal.segment-slice_bounds-c-end
segment-slice_bounds-c-end t c =
    let b = begun c.args.from c.args.constructed c.requires c.if-depth-eq0.false in
    let x = mapped_ok _ c.read.result c.in_ok-x.was c.map_err.ensures.cases in
    (segment_part b c.read.ensures.0 x).1

pub segment-returns-then-x : goal.segment-returns-then-x
segment-returns-then-x t c =
    let b = begun c.args.from c.args.constructed c.requires c.if-depth-eq0.false in
    let x = mapped_ok _ c.read.result c.in_ok-x.was c.map_err.ensures.cases in
    segment_open b c.read.ensures.0 x c.if-not-constructed.true c.if-x.true

pub segment-returns-then-not-constructed : goal.segment-returns-then-not-constructed
segment-returns-then-not-constructed t c =
    let b = begun c.args.from c.args.constructed c.requires c.if-depth-eq0.false in
    let x = mapped_ok _ c.read.result c.in_ok-x.was c.map_err.ensures.cases in
    segment_whole b c.read.ensures.0 x c.if-not-constructed.true c.if-x.false c.primitive.ensures

pub segment-overflow_add-result : goal.segment-overflow_add-result
segment-overflow_add-result t c =
    let b = begun c.args.from c.args.constructed c.requires c.if-depth-eq0.false in
    let x = mapped_ok _ c.read.result c.in_ok-x.was c.map_err.ensures.cases in
    omega (arith, (segment_read b c.read.ensures.0 x c.if-not-constructed.false c.all.ensures c.in-Ok.is).0, c.well_formed)

pub segment-overflow_sub-result : goal.segment-overflow_sub-result
segment-overflow_sub-result t c =
    let b = begun c.args.from c.args.constructed c.requires c.if-depth-eq0.false in
    let x = mapped_ok _ c.read.result c.in_ok-x.was c.map_err.ensures.cases in
    (segment_part b c.read.ensures.0 x).1

pub segment-overflow_add-result-in-Err : goal.segment-overflow_add-result-in-Err
segment-overflow_add-result-in-Err t c =
    let b = begun c.args.from c.args.constructed c.requires c.if-depth-eq0.false in
    let x = mapped_ok _ c.read.result c.in_ok-x.was c.map_err.ensures.cases in
    omega (arith, (segment_refused b c.read.ensures.0 x c.if-not-constructed.false c.all.ensures c.in-Err.is).0, c.well_formed)

pub segment-returns-in-Ok : goal.segment-returns-in-Ok
segment-returns-in-Ok t c =
    let b = begun c.args.from c.args.constructed c.requires c.if-depth-eq0.false in
    let x = mapped_ok _ c.read.result c.in_ok-x.was c.map_err.ensures.cases in
    (segment_read b c.read.ensures.0 x c.if-not-constructed.false c.all.ensures c.in-Ok.is).1

pub segment-returns-in-Err : goal.segment-returns-in-Err
segment-returns-in-Err t c =
    let b = begun c.args.from c.args.constructed c.requires c.if-depth-eq0.false in
    let x = mapped_ok _ c.read.result c.in_ok-x.was c.map_err.ensures.cases in
    (segment_refused b c.read.ensures.0 x c.if-not-constructed.false c.all.ensures c.in-Err.is).1
