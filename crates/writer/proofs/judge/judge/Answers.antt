-- A message is a row of one value.
-- Assumes nothing.
use Rattle.std.proofs.Common.{ap}
use Rattle.kinds.specs.Kinds.{octet_of}
use Rattle.records.specs.Descriptors.{described}
use Rattle.records.specs.declared.descriptor.Descriptor.{Descriptor}
use Rattle.writer.proofs.Whole.{whole_stands, whole_said}
use Rattle.writer.proofs.judge.judge.Goals as goal

pub judge_members-requires : goal.judge_members-requires
judge_members-requires c =
    let a = c.args in
    let q = c.requires in
    let y = a.table.now in (
      q.0,
      whole_stands y.octets.now a.v.now y.listed.few a.t q.1 (described c.whole.result) (ap (λ (x : Descriptor). octet_of x.kind) c.whole.ensures)
          (ap (λ (x : Descriptor). x.own) c.whole.ensures),
    )

pub returns : goal.returns
returns c =
    let a = c.args in
    let q = c.requires in
    let y = a.table.now in
    whole_said y.octets.now a.v.now y.listed.few a.t q.1 (described c.whole.result) (ap (λ (x : Descriptor). octet_of x.kind) c.whole.ensures)
    (ap (λ (x : Descriptor). x.own) c.whole.ensures) 24 a.notes.now _ _ c.judge_members.ensures
