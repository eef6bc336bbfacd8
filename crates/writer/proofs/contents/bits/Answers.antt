-- By the octets that are there, or are not.
-- Assumes nothing.
use Rattle.std.proofs.Common.{arith}
use Rattle.writer.proofs.Leaves.{unshaped, bits_short, bits_cut, bits_unclear, bits_measured}
use Rattle.writer.proofs.contents.bits.Goals as goal

pub returns-in_err-start : goal.returns-in_err-start
returns-in_err-start c = unshaped _ _ _ c.from_residual.ensures (bits_short _ _ c.in_err-start.ensures)

pub returns-in_err-end : goal.returns-in_err-end
returns-in_err-end c = unshaped _ _ _ c.from_residual-in_err-end.ensures (bits_cut _ _ c.in_ok-start.ensures _ c.two-n.ensures.0 c.in_err-end.ensures)

pub returns-then-not-clear : goal.returns-then-not-clear
returns-then-not-clear c =
    bits_unclear _ _ c.in_ok-start.ensures _ c.two-n.ensures.0 c.in_ok-end.ensures _ c.clear.ensures c.if-not-clear.true

pub returns : goal.returns
returns c =
    bits_measured _ _ c.in_ok-start.ensures _ c.two-n.ensures.0 c.in_ok-end.ensures _ c.clear.ensures c.if-not-clear.false (omega arith)
