use Rattle.std.proofs.Common.{arith, length, ◌≡◌, ◌≤◌, ◌<◌, ◌+◌, ◌-◌}
use Rattle.kinds.specs.Kinds.{octet_of}
use Rattle.reader.specs.Leaves.{leaf_of}
use Rattle.reader.proofs.LeafKinds.{leaf_three}
use Rattle.reader.proofs.LeafCode.{parts_fit, octets_placed, bits_few, bits_kept, bits_placed}
use Rattle.reader.proofs.contents.place_segments.Goals as goal
use Rattle.reader.proofs.contents.place_segments.Goals.{After-join-x}

pub begin_node-requires : goal.begin_node-requires
begin_node-requires c = omega (arith, leaf_three (leaf_of (octet_of c.args.kind) c.requires.contents), c.requires.fits)

fit : (c : After-join-x)
    → let x = c.join-x.result in
    let s = c.args.to + 5 in
    let n = length c.args.buf.now in
    (s ≤ x.next) × (x.next ≤ n) × (x.next - s < 8192) × (length c.join-x.new.buf ≡ n)
fit c = parts_fit c.args.kind c.args.buf.now c.requires c.eq-bits.ensures c.begin_node.ensures c.join-x.ensures

pub overflow_sub-n : goal.overflow_sub-n
overflow_sub-n c = (fit (goal.at.overflow_sub-n c).After-join-x).0

pub slice_bounds-mask-count : goal.slice_bounds-mask-count
slice_bounds-mask-count c = (fit (goal.at.slice_bounds-mask-count c).After-join-x).0

pub slice_bounds-mask-start : goal.slice_bounds-mask-start
slice_bounds-mask-start c = (fit (goal.at.slice_bounds-mask-start c).After-join-x).0

pub slice_bounds-mask-end : goal.slice_bounds-mask-end
slice_bounds-mask-end c = let x = fit (goal.at.slice_bounds-mask-end c).After-join-x in omega arith

pub overflow_mul-n : goal.overflow_mul-n
overflow_mul-n c = let x = fit (goal.at.overflow_mul-n c).After-join-x in omega arith

pub overflow_sub-n-then-bits : goal.overflow_sub-n-then-bits
overflow_sub-n-then-bits c =
    (bits_few c.args.kind c.args.buf.now c.requires c.eq-bits.ensures c.begin_node.ensures c.join-x.ensures c.if-bits.true).1

pub put_number-requires : goal.put_number-requires
put_number-requires c =
    let a = c.args in
    let x = fit (goal.at.put_number-requires c).After-join-x in
    let y = bits_kept a.kind a.buf.now c.requires c.eq-bits.ensures c.begin_node.ensures c.join-x.ensures c.if-bits.true c.mask.ensures in
    (omega arith, omega arith)

pub put_number-requires-else-bits : goal.put_number-requires-else-bits
put_number-requires-else-bits c = let x = fit (goal.at.put_number-requires-else-bits c).After-join-x in (omega arith, omega arith)

pub returns-then-bits : goal.returns-then-bits
returns-then-bits c p =
    bits_placed c.args.kind c.args.buf.now p c.eq-bits.ensures c.begin_node.ensures c.join-x.ensures c.if-bits.true c.mask.ensures c.put_number.ensures

pub returns-else-bits : goal.returns-else-bits
returns-else-bits c p =
    octets_placed c.args.kind c.args.buf.now p c.eq-bits.ensures c.begin_node.ensures c.join-x.ensures c.if-bits.false c.put_number-else-bits.ensures
