-- By one item more around the others.
-- Assumes nothing.
use Rattle.std.proofs.Common.{◌-◌, arith}
use Rattle.octets.specs.Numbers.{Octets}
use Rattle.records.specs.Descriptors.{described}
use Rattle.writer.proofs.Tags.{header_small, framed_turn, framed_end}
use Rattle.writer.proofs.frame.size_from.Goals as goal

pub grow-total-requires : goal.grow-total-requires
grow-total-requires c =
    let a = c.args in
    let o : Octets a.table.now = λ k. (c.type_inv.table k).fits in
    let q = rw c.describe-e.ensures at c.tag_count-i.ensures.0 in
    let h = header_small a.table.now o (described a.w) c.requires.0 (c.loop-i.i - 1) (omega arith) _ _ _
    (rw c.describe-e.ensures at c.tag_code.ensures) c.header_size-head.ensures (omega arith) in
    (omega arith, omega arith)

pub loop-i-preserved : goal.loop-i-preserved
loop-i-preserved c =
    let a = c.args in
    let o : Octets a.table.now = λ k. (c.type_inv.table k).fits in
    let q = rw c.describe-e.ensures at c.tag_count-i.ensures.0 in (
      c.grow-total.ensures.1,
      rw c.grow-total.ensures.0 (framed_turn a.table.now o (described a.w) c.requires.0 _ c.loop-i.i a.j _ _ _ (omega arith) (omega arith)
          c.loop-i.invariant.1 (rw c.describe-e.ensures at c.tag_code.ensures) c.header_size-head.ensures),
    )

pub returns : goal.returns
returns c =
    (framed_end c.args.table.now _ _ c.loop-i.i c.args.j c.loop-i.total (omega arith) c.loop-i.invariant.1, c.loop-i.invariant.0)
