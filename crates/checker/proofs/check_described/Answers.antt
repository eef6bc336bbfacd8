-- The three ways through the check.
use Rattle.std.proofs.Common.{refl, ◌∙◌, arith}
use Rattle.octets.specs.Numbers.{Octets}
use Rattle.checker.specs.Index.{changed}
use Rattle.checker.proofs.Filled.{index_filled, index_length}
use Rattle.checker.proofs.Renumbering.{listed_by, few_after}
use Rattle.checker.proofs.Ways.{into_long, into_misshapen, into_judged, counted}
use Rattle.checker.proofs.check_described.Goals as goal

pub returns-then-table-gt-LONGEST_TABLE : goal.returns-then-table-gt-LONGEST_TABLE
unfolding changed
returns-then-table-gt-LONGEST_TABLE c =
    let x = into_long c.args.table.now c.args.index.now c.if-table-gt-LONGEST_TABLE.true in
    rw c.misshapen.ensures (x.0, x.1, rw (← x.1, ← x.2) refl)

pub renumber-requires : goal.renumber-requires
renumber-requires c =
    let b = c.args.table.now in
    let o : Octets b = λ k. omega (arith, c.type_inv.table k) in
    (index_filled b o c.if-table-gt-LONGEST_TABLE.false _ _ (counted _ c.in-Ok.ensures.0) c.in-Ok.ensures.1).few

pub invariant_of-w : goal.invariant_of-w
invariant_of-w c =
    let b = c.args.table.now in
    let o : Octets b = λ k. omega (arith, c.type_inv.table k) in
    let F = index_filled b o c.if-table-gt-LONGEST_TABLE.false _ _ (counted _ c.in-Ok.ensures.0) c.in-Ok.ensures.1 in
    record { octets = o; filled = rw c.renumber.ensures (listed_by b _ _ F (rw c.in-Ok.ensures.1 (index_length b o c.if-table-gt-LONGEST_TABLE.false))) }

pub returns-in-Ok : goal.returns-in-Ok
returns-in-Ok c =
    let x = into_judged c.args.table.now c.args.index.now _ c.if-table-gt-LONGEST_TABLE.false c.in-Ok.ensures.1 c.in-Ok.ensures.0 c.judge_records.ensures in
    (x.0, x.1, c.renumber.ensures ∙ rw (x.1, x.2) refl)

pub renumber-requires-in-Err : goal.renumber-requires-in-Err
renumber-requires-in-Err c =
    let b = c.args.table.now in
    let o : Octets b = λ k. omega (arith, c.type_inv.table k) in
    let x = into_misshapen b c.args.index.now _ c.if-table-gt-LONGEST_TABLE.false c.in-Err.ensures.1 c.in-Err.ensures.0 in
    rw x.1 (few_after b c.args.index.now o)

pub returns-in-Err : goal.returns-in-Err
returns-in-Err c =
    let x = into_misshapen c.args.table.now c.args.index.now _ c.if-table-gt-LONGEST_TABLE.false c.in-Err.ensures.1 c.in-Err.ensures.0 in
    (x.0, x.1, c.renumber-in-Err.ensures ∙ rw (x.1, x.2) refl)
