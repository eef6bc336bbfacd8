-- `cases::text::Line::push_decimal`: the digits of the rest, and after them those that are stored.
-- Assumes nothing.
use Rattle.std.proofs.Common.{◌≡◌, ◌++◌, ◌≤◌, ◌<◌, ◌^◌, drop, length}
use Rattle.std.specs.Fmt.{decimal}
use Rattle.cases.proofs.text.Line.push_decimal.Given as goal

abbrev pub invariant-loop-rest : goal.invariant-loop-rest
invariant-loop-rest l = record {
  whole : decimal l.rest ++ drop l.at l.digits ≡ decimal l.n;
  room : l.rest < 10 ^ l.at;
  some : 1 ≤ l.at;
  most : l.at ≤ 20;
  long : length l.digits ≡ 20;
}

abbrev pub decreases-loop-rest : goal.decreases-loop-rest
decreases-loop-rest l = l.rest
