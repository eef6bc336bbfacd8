-- The chain tests each octet.
use Rattle.std.proofs.Common.{rules, tests, ◌∙◌, ◌+◌, ◌*◌, leb, get_or, refl, arith}
use Rattle.std.proofs.lemmas.Iterator.{YieldsList-from_range}
use Rattle.std.proofs.lemmas.Iterator.Search.{all_from_yields_List}
use Rattle.checker.proofs.Searches.{all_places}
use Rattle.checker.proofs.shape.each_at_most.Goals as goal

pub returns : goal.returns
returns c =
    let a = c.args in
    all_from_yields_List (λ k. leb (get_or a.table.now (a.p + a.step * k) 0) a.most) _ _ c.all.result c.all.ensures.ran
    (YieldsList-from_range 0 a.n a.n refl (omega arith)) (λ x b q k. search (rules, tests))
    ∙ all_places (λ x. leb x a.most) a.step a.table.now a.p a.n
