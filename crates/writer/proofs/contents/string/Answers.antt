-- By the octets that are there, or are not.
-- Assumes nothing.
use Rattle.std.proofs.Common.{arith}
use Rattle.writer.proofs.Leaves.{unshaped, string_short, string_cut, string_measured}
use Rattle.writer.proofs.contents.string.Goals as goal

pub returns-in_err-start : goal.returns-in_err-start
returns-in_err-start c = unshaped _ _ _ c.from_residual.ensures (string_short _ _ c.in_err-start.ensures)

pub returns-in_err-end : goal.returns-in_err-end
returns-in_err-end c = unshaped _ _ _ c.from_residual-in_err-end.ensures (string_cut _ _ c.in_ok-start.ensures _ c.two-size.ensures.0 c.in_err-end.ensures)

pub returns : goal.returns
returns c = string_measured _ _ c.in_ok-start.ensures _ c.two-size.ensures.0 c.in_ok-end.ensures (omega arith)
