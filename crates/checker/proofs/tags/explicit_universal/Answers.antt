-- The chain tests the class of each tag.
use Rattle.std.proofs.Common.{rules, tests, ◌∙◌, ◌+◌, ◌*◌, eqb, get_or, refl, arith}
use Rattle.std.proofs.lemmas.Iterator.{YieldsList-from_range}
use Rattle.std.proofs.lemmas.Iterator.Search.{any_from_yields_List}
use Rattle.checker.proofs.Searches.{any_places}
use Rattle.checker.proofs.tags.explicit_universal.Goals as goal

pub returns : goal.returns
returns c =
    let a = c.args in
    let p = c.tag_place-p.result in
    rw (← c.tag_place-p.ensures.0) (any_from_yields_List (λ k. eqb (get_or a.table.now (p + 3 * k) 0) 0) _ _ c.any.result c.any.ensures.ran
    (YieldsList-from_range 0 a.e.explicit a.e.explicit refl (omega arith)) (λ x b q k. search (rules, tests))
    ∙ any_places (λ x. eqb x 0) 3 a.table.now p a.e.explicit)
