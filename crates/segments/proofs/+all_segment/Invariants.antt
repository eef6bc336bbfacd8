-- How deep `segments::all` and `segment` go, and what holds before each segment.
-- Assumes nothing.
use Rattle.std.proofs.Common.{◌+◌, ◌-◌, ◌*◌, ◌≤◌, length}
use Rattle.segments.specs.Segments.{kind_of}
use Rattle.segments.proofs.SegmentCode.{Going}
use Rattle.segments.proofs.+all_segment.Given as goal

abbrev pub decreases-all : goal.decreases-all
decreases-all l = 2 * l.depth + 1

abbrev pub decreases-segment : goal.decreases-segment
decreases-segment l = 2 * l.depth

abbrev pub invariant-all-loop-over : goal.invariant-all-loop-over
invariant-all-loop-over l = record {
  there : l.at ≤ length l.m;
  near : l.back ≤ l.at;
  low : l.one ≤ l.size;
  high : l.size ≤ l.one + l.at;
  going : Going (kind_of l.bits) l.depth l.indefinite l.m l.at l.size l.unused l.back;
}

abbrev pub decreases-all-loop-over : goal.decreases-all-loop-over
decreases-all-loop-over l = length l.m - l.at
