-- The test of the numbers that are left is the whole test.
use Rattle.std.proofs.Common.{◌≡◌, ◌+◌, ◌-◌, ◌*◌}
use Rattle.table.specs.Octets.{rising}
use Rattle.table.specs.Reading.{numbers_at}
use Rattle.checker.proofs.shape.rises.Given as goal

abbrev pub invariant-loop-k : goal.invariant-loop-k
invariant-loop-k l = rising l.low (numbers_at l.table (l.p + 2 * l.k) (l.n - l.k)) ≡ rising 0 (numbers_at l.table l.p l.n)
