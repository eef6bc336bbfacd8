-- By the two octets that are there, or are not.
-- Assumes nothing.
use Rattle.writer.proofs.Leaves.{unshaped, number_short, number_measured}
use Rattle.writer.proofs.contents.enumerated.Goals as goal

pub returns-in_err-end : goal.returns-in_err-end
returns-in_err-end c = unshaped _ _ _ c.from_residual.ensures (number_short _ _ c.in_err-end.ensures)

pub returns : goal.returns
returns c =
    number_measured _ _ _ c.in_ok-end.ensures c.two.ensures.0 c.number_size-size.ensures.0 c.number_size-size.ensures.1
