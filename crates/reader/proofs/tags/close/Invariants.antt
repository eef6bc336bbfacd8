-- What holds while `reader::tags::close` closes tags: what is read under the notes that are left is what is read under all.
-- Assumes nothing.
use Rattle.std.proofs.Common.{◌≤◌}
use Rattle.reader.proofs.Wrapping.{Closing}
use Rattle.reader.proofs.tags.close.Given as goal

abbrev pub invariant-loop-j : goal.invariant-loop-j
invariant-loop-j l = record {
  low : l.at ≤ l.end;
  closing : Closing l.m l.notes l.count l.fn.end l.fn.at l.size l.at l.end l.j;
}
