-- The numbers that are left decide the whole search.
-- Assumes nothing.
use Rattle.std.proofs.Common.{◌≡◌, ◌+◌, ◌-◌, ◌*◌, eqb}
use Rattle.octets.specs.Lists.{any}
use Rattle.table.specs.Reading.{numbers_at}
use Rattle.records.proofs.descriptor.lists.Given as goal

abbrev pub invariant-loop-i : goal.invariant-loop-i
invariant-loop-i l =
    any (λ m. eqb m l.k) (numbers_at l.table (l.from + 2 * l.i) (l.n - l.i)) ≡ any (λ m. eqb m l.k) (numbers_at l.table l.from l.n)
