-- A message is a row of one value.
-- Assumes nothing.
use Rattle.std.proofs.Common.{ap}
use Rattle.kinds.specs.Kinds.{octet_of}
use Rattle.records.specs.Descriptors.{described}
use Rattle.records.specs.declared.descriptor.Descriptor.{Descriptor}
use Rattle.writer.proofs.Whole.{whole_puts, whole_put}
use Rattle.writer.proofs.put.put.Goals as goal

pub put_members-requires : goal.put_members-requires
put_members-requires c =
    let a = c.args in
    let q = c.requires in
    let y = a.table.now in
    whole_puts y.octets.now a.v.now a.notes.now y.listed.few a.t q.1 (described c.whole.result) (ap (λ (x : Descriptor). octet_of x.kind) c.whole.ensures)
    (ap (λ (x : Descriptor). x.own) c.whole.ensures) 24 q.0 q.2 a.buf.now q.3

pub returns : goal.returns
returns c =
    let a = c.args in
    let q = c.requires in
    let y = a.table.now in
    let k = ap (λ (x : Descriptor). octet_of x.kind) c.whole.ensures in
    let o = ap (λ (x : Descriptor). x.own) c.whole.ensures in
    whole_put y.octets.now a.v.now a.notes.now y.listed.few a.t q.1 (described c.whole.result) k o 24 q.0 q.2 a.buf.now q.3 _ _
    (c.put_members.ensures (whole_puts y.octets.now a.v.now a.notes.now y.listed.few a.t q.1 (described c.whole.result) k o 24 q.0 q.2 a.buf.now q.3))
