-- By the octet that is there, or is not.
-- Assumes nothing.
use Rattle.writer.proofs.Leaves.{unshaped, boolean_short, boolean_other, boolean_measured}
use Rattle.writer.proofs.contents.boolean.Goals as goal

pub returns-in_err-end : goal.returns-in_err-end
returns-in_err-end c = unshaped _ _ _ c.from_residual.ensures (boolean_short _ _ c.in_err-end.ensures)

pub returns-then-v-p-ge2 : goal.returns-then-v-p-ge2
returns-then-v-p-ge2 c = boolean_other _ _ c.in_ok-end.ensures c.if-v-p-ge2.true

pub returns : goal.returns
returns c = boolean_measured _ _ c.in_ok-end.ensures c.if-v-p-ge2.false
