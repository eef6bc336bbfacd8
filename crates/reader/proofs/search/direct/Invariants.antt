-- What holds while `reader::search::direct` looks: what is found among the parts from the k-th on is what is found among all.
-- Assumes nothing.
use Rattle.std.proofs.Common.{◌≡◌}
use Rattle.reader.specs.Sought.{held, direct as Sought·direct}
use Rattle.reader.proofs.search.direct.Given as goal

abbrev pub invariant-loop-k : goal.invariant-loop-k
invariant-loop-k l =
    Sought·direct l.table.octets.now (held l.table.octets.now l.w) l.i l.came l.code
    ≡ Sought·direct l.table.octets.now (held l.table.octets.now l.w) l.k l.came l.code
