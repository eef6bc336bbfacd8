-- By the eight octets that are there, or are not.
-- Assumes nothing.
use Rattle.std.proofs.Common.{w64, rules}
use mir.Val.{SFits}
use mir.ValLaws.{to_z-of_z}
use Rattle.writer.proofs.Leaves.{unshaped, integer_short, integer_measured}
use Rattle.writer.proofs.contents.integer.Goals as goal

pub returns-in_err-end : goal.returns-in_err-end
returns-in_err-end c = unshaped _ _ _ c.from_residual.ensures (integer_short _ _ c.in_err-end.ensures)

pub returns : goal.returns
returns c =
    let f : SFits w64 c.eight.result = search rules in
    integer_measured _ _ c.in_ok-end.ensures (to_z-of_z w64 _ f) c.eight.ensures c.size-size.ensures.0 c.size-size.ensures.2
