-- What holds while `reader::came::lacks` goes over members: what those from the k-th on say is what all from the i-th on say.
-- Assumes nothing.
use Rattle.std.proofs.Common.{◌≡◌, not, ◌||◌}
use Rattle.octets.specs.Lists.{any as Lists·any}
use Rattle.reader.specs.Items.{left}
use Rattle.reader.specs.Sought.{held}
use Rattle.reader.proofs.came.lacks.Given as goal

abbrev pub invariant-loop-k : goal.invariant-loop-k
invariant-loop-k l =
    Lists·any (λ x. l.any || not x.1.optional) (left (held l.table.octets.now l.w) l.i l.came)
    ≡ Lists·any (λ x. l.any || not x.1.optional) (left (held l.table.octets.now l.w) l.k l.came)
