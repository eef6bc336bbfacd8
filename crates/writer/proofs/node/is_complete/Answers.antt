-- Assumes nothing.
use Rattle.std.proofs.Common.{arith}
use Rattle.writer.proofs.Agreement.{complete_ends, complete_present, complete_stops, complete_optional}
use Rattle.writer.proofs.node.is_complete.Goals as goal
use Rattle.writer.proofs.node.is_complete.Goals.{then-v-q-ne1+else-not-optional, else-v-q-ne1}

pub returns-then-not-optional : goal.returns-then-not-optional
returns-then-not-optional c =
    let a = c.args in
    complete_stops a.table.now a.p a.n a.v.now a.q c.loop-i.i _ c.loop-i.invariant c.loop-i-test.true c.if-v-q-ne1.true _ c.optional.ensures c.if-not-optional.true

pub loop-i-preserved : goal.loop-i-preserved
loop-i-preserved c =
    let a = c.args in
    elim c.if-v-q-ne1.branch [
      | then-v-q-ne1+else-not-optional w ↦ complete_optional a.table.now a.p a.n a.v.now a.q c.loop-i.i _ c.loop-i.invariant c.loop-i-test.true w.if-v-q-ne1.true _
          w.optional.ensures w.if-not-optional.false
      | else-v-q-ne1 w ↦ complete_present a.table.now a.p a.n a.v.now a.q c.loop-i.i _ c.loop-i.invariant c.loop-i-test.true w.if-v-q-ne1.false
    ]

pub returns : goal.returns
returns c = let a = c.args in complete_ends a.table.now a.p a.n a.v.now a.q c.loop-i.i _ c.loop-i.invariant (omega arith)
