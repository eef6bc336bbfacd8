-- What holds while `reader::search::indirect` looks: what is found among the parts from the k-th on is what is found among all.
-- Assumes nothing.
use Rattle.std.proofs.Common.{◌≡◌}
use Rattle.table.specs.Reading.{table_in}
use Rattle.reader.specs.Codes.{search_in, hit}
use Rattle.reader.specs.Items.{awaits, first}
use Rattle.reader.specs.Sought.{held}
use Rattle.reader.proofs.search.indirect.Given as goal

abbrev pub invariant-loop-k : goal.invariant-loop-k
invariant-loop-k l =
    first (λ y. hit (search_in (table_in l.table.octets.now) 129 y.1.type l.code)) (awaits (held l.table.octets.now l.w) l.i l.came)
    ≡ first (λ y. hit (search_in (table_in l.table.octets.now) 129 y.1.type l.code)) (awaits (held l.table.octets.now l.w) l.k l.came)
