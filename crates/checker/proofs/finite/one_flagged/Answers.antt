-- The chain tests each alternative.
use Rattle.std.proofs.Common.{rules, tests, ◌∙◌, ◌+◌, get_or, refl, arith}
use Rattle.std.proofs.lemmas.Iterator.{YieldsList-from_range}
use Rattle.std.proofs.lemmas.Iterator.Search.{any_from_yields_List}
use Rattle.checker.specs.Marks.{is_flagged}
use Rattle.checker.proofs.Searches.{any_next}
use Rattle.checker.proofs.finite.one_flagged.Goals as goal

pub returns : goal.returns
returns c =
    let a = c.args in
    any_from_yields_List (λ k. is_flagged a.flags.now (get_or a.table.now (a.s.first + k) 0)) _ _ c.any.result c.any.ensures.ran
    (YieldsList-from_range 0 a.s.count a.s.count refl (omega arith)) (λ x b q k. search (rules, tests))
    ∙ any_next (is_flagged a.flags.now) a.table.now a.s.first a.s.count
