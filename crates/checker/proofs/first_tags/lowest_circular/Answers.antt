-- The chain asks each record in turn.
use Rattle.std.proofs.Common.{rules, ◌∙◌, sym, ap}
use Rattle.octets.specs.Lists.{lowest}
use Rattle.octets.specs.Numbers.{if_below}
use Rattle.table.specs.Decide.{circular}
use Rattle.table.specs.Reading.{table_in, count_in}
use Rattle.checker.proofs.Searches.{lowest_over}
use Rattle.checker.proofs.first_tags.lowest_circular.Goals as goal

pub returns : goal.returns
returns c =
    let a = c.args in
    let b = a.w.now.table.now in
    lowest_over (circular (table_in b) (count_in b)) a.w.now.count _ c.find.ensures.ran (λ x o q k. (search rules, λ h. search rules))
    ∙ ap (λ m. if_below a.w.now.count (lowest (circular (table_in b) m) a.w.now.count)) (sym a.w.now.counted)
