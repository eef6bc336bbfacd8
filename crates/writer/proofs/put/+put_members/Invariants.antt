-- Each node that is entered begins farther on; in the loop over a row, what is put so far is noted, and what is left begins at `at`.
-- Assumes nothing.
use Rattle.std.proofs.Common.{◌-◌, ◌≤◌, length}
use Rattle.records.specs.Descriptors.{described}
use Rattle.writer.specs.Putting.{Puts}
use Rattle.writer.proofs.Placing.{Still}
use Rattle.writer.proofs.put.+put_members.Given as goal

abbrev pub decreases-put_members : goal.decreases-put_members
decreases-put_members l = length l.v.now - l.p

abbrev pub invariant-loop-i : goal.invariant-loop-i
invariant-loop-i l = record {
  onward : l.p ≤ l.at;
  within : l.at ≤ length l.v;
  still : (x : Puts l.table.octets.now l.v l.notes (described l.w) l.p l.to l.initial.buf) → Still x l.i l.at l.next l.buf;
}
