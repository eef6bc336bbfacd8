-- A leaf of the record's kind agrees where a number of an ENUMERATED is listed.
-- Assumes nothing.
use Rattle.std.proofs.Common.{arith}
use mir.Syntax.{w64}
use mir.ValLaws.{to_z_pos}
use Rattle.kinds.specs.Kinds.{octet_of}
use Rattle.kinds.specs.declared.Kind.TheVariants.{Enumerated}
use Rattle.kinds.proofs.Same.{is_kind, not_kind}
use Rattle.writer.proofs.Agreement.{leaf_agrees_lem, number_there, number_agrees}
use Rattle.writer.proofs.judge.suits.Goals as goal

pub two-requires : goal.two-requires
two-requires c =
    let a = c.args in
    number_there a.table.now a.v.now a.e.own (octet_of a.e.kind) a.p (is_kind a.e.kind Enumerated c.eq.ensures c.if-eq.true) c.requires.2

pub returns-then-eq : goal.returns-then-eq
returns-then-eq c =
    let a = c.args in
    number_agrees a.table.now a.e c.requires.3 a.v.now a.p (is_kind a.e.kind Enumerated c.eq.ensures c.if-eq.true) _ c.two.ensures.0 _
    (to_z_pos w64 c.two.result (omega (arith, c.two.ensures.1))) _ c.lists.ensures

pub returns : goal.returns
returns c =
    let a = c.args in
    leaf_agrees_lem a.table.now a.v.now a.e.own (octet_of a.e.kind) a.p c.requires.1 (not_kind a.e.kind Enumerated c.eq.ensures c.if-eq.false) c.requires.2
