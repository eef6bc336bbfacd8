-- A simple record has no parts, a SEQUENCE is judged by its runs, any other record as one.
use Rattle.std.proofs.Common.{◌∙◌, sym}
use borrow.Author.Tests.{not-true}
use Rattle.table.proofs.Decided.{sharing_is}
use Rattle.kinds.specs.declared.Kind.TheVariants.{Sequence}
use Rattle.kinds.proofs.Same.{is_kind, not_kind}
use Rattle.checker.proofs.Rules.{filled_beyond, entry_at}
use Rattle.checker.proofs.Shared.{no_sharing, compares, members_two_apart, of_sequence, of_other}
use Rattle.checker.proofs.first_tags.is_sharing.Goals as goal

pub returns-then-e : goal.returns-then-e
returns-then-e c =
    let x = c.args.w.now.filled in
    let (m, h) = c.requires in
    sym (no_sharing _ _ _ (not-true _ (sym (entry_at x _ h c.describe-e.ensures).entered.simple ∙ c.if-e.true)))

pub clash_in_a_run-requires : goal.clash_in_a_run-requires
clash_in_a_run-requires c =
    let x = c.args.w.now.filled in
    let (m, h) = c.requires in (
      compares x h c.describe-e.ensures c.parts-s.ensures c.args.w.now.octets m,
      members_two_apart x h c.describe-e.ensures c.parts-s.ensures (is_kind c.describe-e.result.kind Sequence c.eq.ensures c.if-eq.true),
    )

pub returns-then-eq : goal.returns-then-eq
returns-then-eq c =
    let x = c.args.w.now.filled in
    let (m, h) = c.requires in
    sym (sharing_is _ _ (filled_beyond x) _ _ (of_sequence x h c.describe-e.ensures c.parts-s.ensures (is_kind c.describe-e.result.kind Sequence c.eq.ensures c.if-eq.true) c.clash_in_a_run.ensures))

pub clash-requires : goal.clash-requires
clash-requires c =
    let x = c.args.w.now.filled in
    let (m, h) = c.requires in
    compares x h c.describe-e.ensures c.parts-s.ensures c.args.w.now.octets m

pub returns : goal.returns
returns c =
    let x = c.args.w.now.filled in
    let (m, h) = c.requires in
    sym (sharing_is _ _ (filled_beyond x) _ _ (of_other x h c.describe-e.ensures c.parts-s.ensures (not_kind c.describe-e.result.kind Sequence c.eq.ensures c.if-eq.false) c.clash.ensures))
