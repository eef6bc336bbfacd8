-- By the seven octets that are there, or are not.
-- Assumes nothing.
use Rattle.writer.proofs.Leaves.{unshaped, time_short, time_outside, time_measured}
use Rattle.writer.proofs.contents.time.Goals as goal

pub returns-in_err-end : goal.returns-in_err-end
returns-in_err-end c = unshaped _ _ _ c.from_residual.ensures (time_short _ _ _ c.in_err-end.ensures)

pub returns-then-not-in_range : goal.returns-then-not-in_range
returns-then-not-in_range c = time_outside _ _ _ c.in_ok-end.ensures c.seven.ensures _ c.in_range.ensures c.if-not-in_range.true

pub returns : goal.returns
returns c = time_measured _ _ _ c.in_ok-end.ensures c.seven.ensures _ c.in_range.ensures c.if-not-in_range.false c.size-size.ensures
