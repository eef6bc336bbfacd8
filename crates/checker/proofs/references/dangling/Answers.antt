-- The chain tests each part's octet.
use Rattle.std.proofs.Common.{rules, tests, ◌∙◌, ◌+◌, ◌*◌, leb, get_or, refl, arith}
use Rattle.std.proofs.lemmas.Iterator.{YieldsList-from_range}
use Rattle.std.proofs.lemmas.Iterator.Search.{any_from_yields_List}
use Rattle.checker.proofs.Searches.{any_places}
use Rattle.checker.proofs.references.dangling.Goals as goal

pub returns : goal.returns
returns c =
    let a = c.args in
    any_from_yields_List (λ k. leb a.n (get_or a.table.now (a.s.first + a.s.step * k) 0)) _ _ c.any.result c.any.ensures.ran
    (YieldsList-from_range 0 a.s.count a.s.count refl (omega arith)) (λ x b q k. search (rules, tests))
    ∙ any_places (λ x. leb a.n x) a.s.step a.table.now a.s.first a.s.count
