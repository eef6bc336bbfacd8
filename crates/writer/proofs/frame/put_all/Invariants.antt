-- The headers by the tags before the i-th are put.
-- Assumes nothing.
use Rattle.records.specs.Descriptors.{described}
use Rattle.writer.proofs.Tags.{Heads}
use Rattle.writer.proofs.frame.put_all.Given as goal

abbrev pub invariant-loop-i : goal.invariant-loop-i
invariant-loop-i l = Heads l.table (described l.w) l.n l.initial.buf l.to l.buf l.i l.next
