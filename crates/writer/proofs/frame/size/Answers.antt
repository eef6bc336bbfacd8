-- One tag, of an octet, and a length of an octet.
-- Assumes nothing.
use Rattle.std.proofs.Common.{arith}
use Rattle.octets.specs.Numbers.{Octets}
use Rattle.records.specs.Descriptors.{described}
use Rattle.writer.proofs.Tags.{short_size}
use Rattle.writer.proofs.frame.size.Goals as goal

pub returns-then-is_short : goal.returns-then-is_short
returns-then-is_short c =
    let a = c.args in
    let o : Octets a.table.now = λ k. (c.type_inv.table k).fits in
    let x = c.is_short.ensures c.if-is_short.true in
    (short_size a.table.now o (described a.w) c.requires.0 a.n x, omega arith)
