-- One number more, or the end.
use Rattle.std.proofs.Common.{◌≡◌, ◌+◌, ◌-◌, ◌*◌, arith}
use Rattle.table.proofs.Loops.{rising_stops, rising_goes, rising_ends}
use Rattle.checker.proofs.shape.rises.Goals as goal

pub returns-then-x-low : goal.returns-then-x-low
returns-then-x-low c = rising_stops _ _ _ _ _ c.loop-k.invariant (omega arith) (rw c.two-x.ensures.0 at c.if-x-low.true)

pub loop-k-preserved : goal.loop-k-preserved
loop-k-preserved c =
    let l = c.loop-k in
    let e = c.two-x.ensures.0 in
    let p : c.args.p + 2 * (l.k + 1) ≡ c.args.p + 2 * l.k + 2 = omega arith in
    let n : c.args.n - (l.k + 1) ≡ c.args.n - l.k - 1 = omega arith in
    rw (p, n, e) (rising_goes _ _ _ _ _ l.invariant (omega arith) (rw e at c.if-x-low.false))

pub returns : goal.returns
returns c = rising_ends _ _ _ _ _ c.loop-k.invariant (omega arith)
