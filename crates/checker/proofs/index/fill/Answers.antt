-- The ways through the scan.
use Rattle.std.proofs.Common.{◌∙◌, sym, arith}
use Rattle.checker.proofs.Entering.{entering_first, entering_stops, entering_ends, entering_whole, entering_next}
use Rattle.checker.proofs.Searches.{zero_is, end_is}
use Rattle.checker.proofs.index.fill.Goals as goal

pub loop-count-init : goal.loop-count-init
loop-count-init c = entering_first _

pub returns-in_default : goal.returns-in_default
returns-in_default c =
    rw c.misshapen.ensures (entering_stops _ _ _ _ c.loop-count.invariant c.loop-count-test.true (zero_is c.in_default.ensures))

pub returns-then-end-table : goal.returns-then-end-table
returns-then-end-table c =
    let (e, d) = end_is c.in-Some.ensures in
    entering_whole _ _ _ _ c.loop-count.invariant c.loop-count-test.true d _ c.entry.ensures (sym e ∙ c.if-end-table.true)

pub loop-count-preserved : goal.loop-count-preserved
loop-count-preserved c =
    let (e, d) = end_is c.in-Some.ensures in
    rw e (entering_next _ _ _ _ c.loop-count.invariant c.loop-count-test.true d _ c.entry.ensures
    (λ i. omega (arith, c.type_inv.table i)) c.requires (rw e at c.if-end-table.false))

pub returns : goal.returns
returns c = rw c.misshapen-2.ensures (entering_ends _ _ _ _ c.loop-count.invariant c.loop-count-test.false)
