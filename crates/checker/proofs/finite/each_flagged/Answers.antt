-- The chain tests each member.
use Rattle.std.proofs.Common.{rules, tests, ◌∙◌, ◌||◌, ◌+◌, ◌*◌, eqb, get_or, refl, arith}
use Rattle.std.proofs.lemmas.Iterator.{YieldsList-from_range}
use Rattle.std.proofs.lemmas.Iterator.Search.{all_from_yields_List}
use Rattle.checker.specs.Marks.{is_flagged}
use Rattle.checker.proofs.Searches.{all_members}
use Rattle.checker.proofs.finite.each_flagged.Goals as goal

pub returns : goal.returns
returns c =
    let a = c.args in
    let b = a.table.now in
    let p = a.s.first in
    all_from_yields_List (λ k. eqb (get_or b (p + 2 * k + 1) 0) 1 || is_flagged a.flags.now (get_or b (p + 2 * k) 0)) _ _ c.all.result c.all.ensures.ran
    (YieldsList-from_range 0 a.s.count a.s.count refl (omega arith)) (λ x b q k. search (rules, tests))
    ∙ all_members (is_flagged a.flags.now) b p a.s.count
