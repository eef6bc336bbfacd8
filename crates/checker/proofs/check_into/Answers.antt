-- The numbers of the descriptors become those of the entries again.
-- Assumes nothing.
use Rattle.std.proofs.Common.{◌∙◌, arith}
use Rattle.octets.specs.Numbers.{Octets}
use Rattle.checker.proofs.Renumbering.{few_after, restored_after}
use Rattle.checker.proofs.check_into.Goals as goal

pub restore-requires : goal.restore-requires
restore-requires c =
    let o : Octets c.args.table.now = λ k. omega (arith, c.type_inv.table k) in
    rw c.check_described-checked.ensures.1 (few_after c.args.table.now c.args.index.now o)

pub returns : goal.returns
returns c =
    let e = c.check_described-checked.ensures in
    let o : Octets c.args.table.now = λ k. omega (arith, c.type_inv.table k) in
    (e.0, e.1, c.restore.ensures ∙ rw (e.1, e.2) (restored_after c.args.table.now c.args.index.now o))
