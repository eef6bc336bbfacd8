-- `ber::length::again` meets its contract.
-- Assumes nothing.
use Rattle.std.proofs.Common.{sym, ◌∙◌}
use Rattle.ber.proofs.Places.{one_back}
use Rattle.ber.proofs.Told.{again_other}
use Rattle.ber.proofs.length.again.Goals as goal

pub returns : goal.returns
returns c = c.unwrap_or.ensures ∙ sym (again_other c.args.m.now _ c.if-m-at.false c.if-first-lt128.false _ λ l. rw one_back at (c.read_other.ensures l))
