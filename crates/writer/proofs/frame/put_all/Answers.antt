-- By one header more after the others.
-- Assumes nothing.
use Rattle.std.proofs.Common.{arith}
use Rattle.octets.specs.Numbers.{Octets}
use Rattle.records.specs.Descriptors.{described}
use Rattle.writer.proofs.Tags.{heads_turn, heads_end}
use Rattle.writer.proofs.frame.put_all.Goals as goal

pub loop-i-preserved : goal.loop-i-preserved
loop-i-preserved c =
    let a = c.args in
    let o : Octets a.table.now = λ k. (c.type_inv.table k).fits in
    let q = rw c.describe-e.ensures at c.tag_count-i-end.ensures.0 in
    heads_turn a.table.now o (described a.w) c.requires.0 a.n a.buf.now a.to _ c.loop-i.i _ c.loop-i.invariant (rw c.loop-i.auto.buf c.requires.2)
    (omega arith) _ _ (rw c.describe-e.ensures at c.tag_code-code.ensures) c.size_from-inner.ensures.0 _ _ c.put_header-next.ensures.0 c.put_header-next.ensures.1

pub returns : goal.returns
returns c =
    let a = c.args in
    let o : Octets a.table.now = λ k. (c.type_inv.table k).fits in
    let q = rw c.describe-e.ensures at c.tag_count-i-end.ensures.0 in
    heads_end a.table.now o (described a.w) c.requires.0 a.n a.buf.now a.to _ c.loop-i.i _ c.loop-i.invariant (rw c.loop-i.auto.buf c.requires.2) (omega arith)
