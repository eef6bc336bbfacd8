-- Members hand the octets on as they are, and a value hands on fewer. The loop: what is known before it, and what `State` says of the items
-- so far.
use Rattle.std.proofs.Common.{◌+◌, ◌*◌, ◌-◌, length, eqb}
use Rattle.octets.specs.Answer.{if}
use Rattle.kinds.specs.Kinds.{octet_of}
use Rattle.reader.proofs.PlacedMembers.{Started, State}
use Rattle.reader.proofs.place.+place_members_place_value.Given as goal

abbrev pub decreases-place_members : goal.decreases-place_members
decreases-place_members l = 2 * length l.m.now + 1

abbrev pub decreases-place_value : goal.decreases-place_value
decreases-place_value l = 2 * length l.m.now

abbrev pub invariant-place_members-loop-began : goal.invariant-place_members-loop-began
invariant-place_members-loop-began l = record {
  started : Started l.table.octets.now l.table.index.now l.w l.m l.indefinite l.fn.buf l.to l.e l.s l.began l.last l.initial.buf;
  state : State started l.buf l.at l.next l.j l.count;
}

abbrev pub decreases-place_members-loop-began : goal.decreases-place_members-loop-began
decreases-place_members-loop-began l = if (eqb (octet_of l.e.kind) 17) (l.s.count - l.j) λ _. length l.m - l.at
