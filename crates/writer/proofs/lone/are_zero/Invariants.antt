-- The sum so far is 0 if the octets so far are, and fits.
-- Assumes nothing.
use Rattle.std.proofs.Common.{◌≡◌, ◌+◌, ◌-◌, ◌*◌, ◌≤◌, ◌&&◌, eqb}
use Rattle.octets.specs.Lists.{all}
use Rattle.table.specs.Reading.{every_at}
use Rattle.writer.proofs.lone.are_zero.Given as goal

abbrev pub invariant-loop-x : goal.invariant-loop-x
invariant-loop-x l =
    (l.sum ≤ 255 * l.x-index)
    × ((eqb l.sum 0 && all (λ x. eqb x 0) (every_at 1 l.v (l.p + l.x-index) (l.n - l.x-index))) ≡ all (λ x. eqb x 0) (every_at 1 l.v l.p l.n))
