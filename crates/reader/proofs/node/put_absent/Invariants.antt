use Rattle.std.proofs.Common.{◌≡◌, ◌+◌, ◌-◌, replicate}
use Rattle.std.proofs.lemmas.List.Edits.{sets}
use Rattle.reader.specs.Placing.{absent_in}
use Rattle.reader.proofs.node.put_absent.Given as goal

abbrev pub invariant-loop-i : goal.invariant-loop-i
invariant-loop-i l = absent_in l.j l.k l.initial.buf l.to ≡ sets l.buf (l.to + 4 + l.i) (replicate (l.k - l.i) 0)
