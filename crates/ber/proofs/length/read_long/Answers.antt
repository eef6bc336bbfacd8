-- `ber::length::read_long` meets its contract.
-- Assumes nothing.
use Rattle.std.proofs.Common.{◌+◌, arith}
use Rattle.octets.proofs.Permutations.{all_octets}
use Rattle.ber.proofs.Told.{one_digit, all_digits, digits_small, length_few, length_long, length_long_no}
use Rattle.ber.proofs.length.read_long.Goals as goal

pub returns-then-m-start : goal.returns-then-m-start
returns-then-m-start c = length_few c.args.m.now _ c.requires.0 c.requires.1 _ c.requires.2 c.requires.3 c.requires.4 c.if-m-start.true

pub loop-p-preserved : goal.loop-p-preserved
loop-p-preserved c =
    let m = c.args.m.now in
    let more = one_digit m c.args.at c.args.k c.loop-p.n c.loop-p.p c.loop-p-test.true (omega arith) c.loop-p.invariant.read in
    let octets = all_octets m λ i. omega (arith, c.type_inv.m i) in
    record { small = digits_small m c.args.at c.args.k _ (c.loop-p.p + 1) c.requires.3 octets more; read = more }

pub returns-then-m-end : goal.returns-then-m-end
returns-then-m-end c =
    let m = c.args.m.now in
    let whole = all_digits m c.args.at c.args.k _ _ c.loop-p-test.false c.loop-p.invariant.read in
    length_long_no m _ c.requires.0 c.requires.1 _ c.requires.2 c.requires.3 c.requires.4 c.if-m-start.false _ whole c.if-m-end.true

pub returns : goal.returns
returns c =
    let m = c.args.m.now in
    let whole = all_digits m c.args.at c.args.k _ _ c.loop-p-test.false c.loop-p.invariant.read in
    length_long m _ c.requires.0 c.requires.1 _ c.requires.2 c.requires.3 c.requires.4 c.if-m-start.false _ whole c.if-m-end.false
