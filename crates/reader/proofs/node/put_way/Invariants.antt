use Rattle.std.proofs.Common.{◌≡◌, ◌+◌, ◌*◌, take}
use Rattle.std.proofs.lemmas.List.Edits.{sets}
use Rattle.reader.specs.Placing.{way_octets}
use Rattle.reader.proofs.node.put_way.Given as goal

abbrev pub invariant-loop-x : goal.invariant-loop-x
invariant-loop-x l = record {
  next : l.next ≡ l.to + 4 * l.x-index;
  buffer : l.buf ≡ sets l.initial.buf l.to (way_octets (take l.x-index l.x-items));
}
