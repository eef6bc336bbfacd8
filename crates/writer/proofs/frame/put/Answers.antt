-- One tag, of an octet, and a length of an octet.
-- Assumes nothing.
use Rattle.std.proofs.Common.{◌∙◌, length, refl, ap, add-one, arith, length-set}
use Rattle.octets.specs.Numbers.{Octets}
use Rattle.records.specs.Descriptors.{described}
use Rattle.records.proofs.Promises.{first_described}
use Rattle.writer.proofs.Tags.{short_heads}
use Rattle.writer.proofs.frame.put.Goals as goal

pub bounds-buf-to : goal.bounds-buf-to
bounds-buf-to c =
    let a = c.args in
    let o : Octets a.table.now = λ k. (c.type_inv.table k).fits in
    let x = c.is_short.ensures c.if-is_short.true in
    omega (arith, ap length (short_heads a.table.now o (described a.w) c.requires.0 a.n x), c.requires.2)

pub overflow_cast-buf : goal.overflow_cast-buf
overflow_cast-buf c = omega (arith, c.first.ensures ∙ first_described _, (c.is_short.ensures c.if-is_short.true).low)

pub bounds-buf-next : goal.bounds-buf-next
bounds-buf-next c =
    let a = c.args in
    let o : Octets a.table.now = λ k. (c.type_inv.table k).fits in
    let x = c.is_short.ensures c.if-is_short.true in
    simp length-set (omega (arith, ap length (short_heads a.table.now o (described a.w) c.requires.0 a.n x), c.requires.2))

pub returns-then-is_short : goal.returns-then-is_short
returns-then-is_short c =
    let a = c.args in
    let o : Octets a.table.now = λ k. (c.type_inv.table k).fits in
    let x = c.is_short.ensures c.if-is_short.true in
    rw (short_heads a.table.now o (described a.w) c.requires.0 a.n x, (c.first.ensures ∙ first_described _)) (refl, simp add-one)
