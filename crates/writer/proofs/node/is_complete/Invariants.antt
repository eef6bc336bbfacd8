-- The members from the i-th on are mandatory or present just when all are.
-- Assumes nothing.
use Rattle.std.proofs.Common.{◌≡◌, ◌+◌, ◌-◌, ◌*◌}
use Rattle.table.specs.Reading.{members_at, every_at}
use Rattle.coding.specs.Judging.{flags, agreeing}
use Rattle.writer.proofs.node.is_complete.Given as goal

abbrev pub invariant-loop-i : goal.invariant-loop-i
invariant-loop-i l =
    agreeing (members_at l.table (l.p + 2 * l.i) (l.n - l.i)) (flags (every_at 1 l.v (l.q + l.i) (l.n - l.i)))
    ≡ agreeing (members_at l.table l.p l.n) (flags (every_at 1 l.v l.q l.n))
