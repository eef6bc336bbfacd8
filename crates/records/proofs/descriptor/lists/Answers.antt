-- By what the numbers that are left decide.
-- Assumes nothing.
use Rattle.std.proofs.Common.{sym, ◌∙◌, arith}
use Rattle.records.proofs.Listed.{listed_stops, listed_goes, listed_ends, listed_in}
use Rattle.records.proofs.descriptor.lists.Goals as goal

pub returns-then-table-at : goal.returns-then-table-at
returns-then-table-at c =
    listed_in _ _ _ _ _ _ c.octet-n.ensures.0 (sym c.if-not-holds.false ∙ c.holds.ensures) c.ranges.z c.in-Ok.ensures
    (listed_stops _ _ _ _ _ c.loop-i.invariant (omega arith) c.if-table-at.true)

pub loop-i-preserved : goal.loop-i-preserved
loop-i-preserved c = listed_goes _ _ _ _ _ c.loop-i.invariant (omega arith) c.if-table-at.false

pub returns : goal.returns
returns c =
    listed_in _ _ _ _ _ _ c.octet-n.ensures.0 (sym c.if-not-holds.false ∙ c.holds.ensures) c.ranges.z c.in-Ok.ensures
    (listed_ends _ _ _ _ _ c.loop-i.invariant (omega arith))
