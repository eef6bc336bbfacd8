-- What holds while `ber::item::open_end` passes over items, and how many octets are left.
-- Assumes nothing.
use Rattle.std.proofs.Common.{◌≤◌, ◌+◌, ◌-◌, length}
use Rattle.ber.proofs.Skipping.{Stands}
use Rattle.ber.proofs.item.open_end.Given as goal

abbrev pub invariant-loop-open : goal.invariant-loop-open
invariant-loop-open l = record { there : l.at ≤ length l.m; few : l.«open» ≤ l.at + 1; stands : Stands l.m l.start l.at l.«open» }

abbrev pub decreases-loop-open : goal.decreases-loop-open
decreases-loop-open l = length l.m - l.at
