-- Each mark is that of the part it was gathered for, and no two parts met.
use Rattle.std.proofs.Common.{◌≡◌, ◌+◌, ◌-◌, ◌*◌, length, take}
use Rattle.table.specs.Reading.{every_at, table_in}
use Rattle.checker.proofs.Shared.{Owned}
use Rattle.checker.proofs.first_tags.clash.Given as goal

abbrev pub invariant-loop-k : goal.invariant-loop-k
invariant-loop-k l =
    let s = l.s in
    (length l.flags ≡ 129)
    × Owned (table_in l.w.table.now) (every_at s.step l.w.table.now s.first s.count) (take 128 l.flags) (l.k + 1) (every_at s.step l.w.table.now (s.first + s.step * l.k) (s.count - l.k))
