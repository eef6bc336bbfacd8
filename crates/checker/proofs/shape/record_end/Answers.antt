-- An octet that is no kind's ends no record.
use Rattle.std.proofs.Common.{◌∙◌, sym, arith}
use Rattle.std.proofs.lemmas.Option.{none-some}
use borrow.Author.Tests.{eqb-true, eqb-false}
use lib.Dec.{eqb}
use Rattle.octets.proofs.Tests.{test}
use Rattle.table.specs.Reading.{record_end}
use Rattle.records.proofs.Entries.{kind_shaped}
use Rattle.checker.proofs.shape.record_end.Goals as goal

pub returns-in_err-of : goal.returns-in_err-of
returns-in_err-of c =
    let b = c.args.table.now in
    let o = c.args.o in
    test (eqb (record_end b o) 0) (λ z. rw (eqb-true _ _ z) c.from_residual.ensures) λ z.
    let e = sym c.in_err-of.was ∙ (c.of.ensures _).1 (kind_shaped b o (omega (arith, eqb-false _ _ z))) in
    absurd (none-some _ e)
