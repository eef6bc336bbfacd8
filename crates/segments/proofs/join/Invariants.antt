-- What holds of the way while `segments::join` walks, and how many octets are left.
-- Assumes nothing.
use Rattle.std.proofs.Common.{◌+◌, ◌-◌, ◌≤◌, ◌<◌, length}
use Rattle.segments.specs.Segments.{kind_of}
use Rattle.segments.proofs.JoinCode.{Joins}
use Rattle.segments.proofs.join.Given as goal

abbrev pub invariant-loop-at : goal.invariant-loop-at
invariant-loop-at l = record {
  there : l.at ≤ length l.m;
  inside : 0 < l.«open»;
  few : l.«open» ≤ l.at + 1;
  joins : Joins (kind_of l.bits) l.m l.initial.buf l.to l.buf l.at l.next l.unused l.«open»;
}

abbrev pub decreases-loop-at : goal.decreases-loop-at
decreases-loop-at l = length l.m - l.at
