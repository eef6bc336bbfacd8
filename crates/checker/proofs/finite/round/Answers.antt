-- What was found of the record below.
use Rattle.std.proofs.Common.{◌∙◌, sym, arith}
use Rattle.std.proofs.Math.ListN.{length-set}
use Rattle.checker.proofs.Rules.{entry_at}
use Rattle.checker.proofs.Marks.{looked_none, looked_flagged, looked_idle, looked_more}
use Rattle.checker.proofs.finite.round.Goals as goal
use Rattle.checker.proofs.finite.round.Goals.{else-flags-t-eq0-via-then-flags-t-eq0+else-found, else-flags-t-eq0-via-else-flags-t-eq0}

pub loop-t-init : goal.loop-t-init
loop-t-init c = (c.told-flags, looked_none _ _ _)

pub loop-t-preserved-then-found : goal.loop-t-preserved-then-found
loop-t-preserved-then-found c = (
  length-set c.loop-t.flags _ _ ∙ c.loop-t.invariant.0,
  looked_more _ _ _ _ _ _ c.loop-t.invariant.1 (omega (arith, c.args.w.now.filled.few)) c.if-flags-t-eq0.true
      (sym (c.found.ensures _ (entry_at c.args.w.now.filled _ (omega arith) c.describe.ensures)) ∙ c.if-found.true),
)

pub loop-t-preserved : goal.loop-t-preserved
loop-t-preserved c = (
  c.loop-t.invariant.0,
  elim c.else-flags-t-eq0.branch [
    | else-flags-t-eq0-via-then-flags-t-eq0+else-found w ↦ looked_idle _ _ _ _ _ _ c.loop-t.invariant.1
        (sym (w.found.ensures _ (entry_at c.args.w.now.filled _ (omega arith) w.describe.ensures)) ∙ w.if-found.false)
    | else-flags-t-eq0-via-else-flags-t-eq0 w ↦ looked_flagged _ _ _ _ _ _ c.loop-t.invariant.1 w.if-flags-t-eq0.false
  ],
)
