-- A table that passes has the descriptors of its records listed.
-- Assumes nothing.
use Rattle.std.proofs.Common.{sym, ◌∙◌, arith}
use Rattle.octets.specs.Numbers.{Octets}
use Rattle.table.proofs.Promises.{passed_short}
use Rattle.checker.proofs.Renumbering.{listed_after}
use Rattle.checker.proofs.passed.Passed.check.Goals as goal

pub invariant_of-index : goal.invariant_of-index
invariant_of-index c =
    let b = c.args.table.now in
    let e = c.check_described-checked.ensures in
    let o : Octets b = λ k. omega (arith, c.type_inv.table k) in
    let p = sym e.0 ∙ c.in-Ok.is in
    let L = listed_after b c.args.index.now.entries o (passed_short b p) in
    record { small = o; passed = p; counted = e.1 ∙ L.0; listed = rw e.2 L.1 }
