-- What holds while `reader::search::among` looks: the way that is noted leads to the CHOICE that is looked at, and under none of its alternatives
-- so far a record begins with the code. The measure is the number of turns that are left.
-- Assumes nothing.
use Rattle.std.proofs.Common.{◌≡◌, length}
use Rattle.table.specs.Reading.{table_in, count_in}
use Rattle.reader.proofs.Among.{Amid}
use Rattle.reader.proofs.ItemsWay.{turns_left}
use Rattle.reader.proofs.search.among.Given as goal

abbrev pub invariant-loop-j : goal.invariant-loop-j
invariant-loop-j l = record { wide : length l.way ≡ 128; amid : Amid l.table.octets.now l.code l.way l.t l.depth l.choice l.j }

abbrev pub decreases-loop-j : goal.decreases-loop-j
decreases-loop-j l = turns_left (table_in l.table.octets.now) (count_in l.table.octets.now) l.way l.depth l.choice l.j
