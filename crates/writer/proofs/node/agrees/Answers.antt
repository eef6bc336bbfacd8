-- A node of the record's kind agrees where, by the kind, its members or its alternative are those of the record.
-- Assumes nothing.
use Rattle.std.proofs.Common.{refl, ap, arith}
use Rattle.kinds.specs.Kinds.{octet_of}
use Rattle.kinds.proofs.Same.{same_kind, one_of, none_of}
use Rattle.writer.proofs.Agreement.{members_there, agrees_count, agrees_complete, members_near, choice_there, agrees_choice, agrees_list}
use Rattle.writer.proofs.node.agrees.Goals as goal

pub bounds-v-p : goal.bounds-v-p
bounds-v-p c =
    let a = c.args in
    omega (
      arith,
      members_there a.table.now a.v.now a.e.own (octet_of a.e.kind) a.p _ c.parts-s.ensures _ refl (one_of c.in-Sequence.is) c.requires.2,
    )

pub returns-then-v-p : goal.returns-then-v-p
returns-then-v-p c =
    let a = c.args in
    agrees_count a.table.now a.v.now a.e.own (octet_of a.e.kind) a.p _ c.parts-s.ensures _ refl (one_of c.in-Sequence.is) c.if-v-p.true

pub is_complete-requires : goal.is_complete-requires
is_complete-requires c =
    let a = c.args in
    let n = members_near a.table.now a.v.now a.e.own (octet_of a.e.kind) a.p _ c.parts-s.ensures _ refl (one_of c.in-Sequence.is)
    (λ k. omega (arith, c.type_inv.table k)) (omega arith) in
    let m = members_there a.table.now a.v.now a.e.own (octet_of a.e.kind) a.p _ c.parts-s.ensures _ refl (one_of c.in-Sequence.is)
    c.requires.2 in
    (n.0, n.1, omega (arith, c.if-v-p.false))

pub returns-else-v-p : goal.returns-else-v-p
returns-else-v-p c =
    let a = c.args in
    agrees_complete a.table.now a.v.now a.e.own (octet_of a.e.kind) a.p _ c.parts-s.ensures _ refl (one_of c.in-Sequence.is)
    c.if-v-p.false _ c.is_complete.ensures

pub bounds-v-p-in-Choice : goal.bounds-v-p-in-Choice
bounds-v-p-in-Choice c =
    let a = c.args in
    choice_there a.table.now a.v.now a.e.own (octet_of a.e.kind) a.p _ c.parts-s.ensures _ refl (rw c.in-Choice.is refl) (ap octet_of c.in-Choice.is) c.requires.2

pub returns-in-Choice : goal.returns-in-Choice
returns-in-Choice c =
    let a = c.args in
    agrees_choice a.table.now a.v.now a.e.own (octet_of a.e.kind) a.p _ c.parts-s.ensures _ refl (rw c.in-Choice.is refl) (ap octet_of c.in-Choice.is)

pub returns-in_default : goal.returns-in_default
returns-in_default c =
    let a = c.args in
    agrees_list a.table.now a.v.now a.e.own (octet_of a.e.kind) a.p _ c.parts-s.ensures _ refl (none_of c.in_default.not-Sequence c.in_default.not-Set)
    (λ e. c.in_default.not-Choice (same_kind _ _ e)) c.requires.1 c.requires.2
