-- What holds while `reader::set::locate` passes over items: if the contents are accepted, the notes say where the members begin that were
-- passed over. The measure is what is left of the contents.
-- Assumes nothing.
use Rattle.std.proofs.Common.{◌≡◌, List, ◌≤◌, ◌-◌, length}
use Rattle.table.specs.Syntax.{Member, Set}
use Rattle.table.specs.Reading.{table_in}
use Rattle.reader.specs.Items.{inside}
use Rattle.reader.specs.Sought.{held}
use Rattle.reader.proofs.PlacedSpots.{Spotting}
use Rattle.reader.proofs.set.locate.Given as goal

abbrev pub invariant-loop-rest : goal.invariant-loop-rest
invariant-loop-rest l = record {
  low : l.at ≤ length l.m;
  spots : (ms : List Member) → held l.table.octets.now l.w ≡ inside (Set ms) → Spotting (table_in l.table.octets.now) ms l.indefinite l.m l.began l.at;
}

abbrev pub decreases-loop-rest : goal.decreases-loop-rest
decreases-loop-rest l = length l.m - l.at
