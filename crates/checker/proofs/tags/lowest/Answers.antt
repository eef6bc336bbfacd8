-- The chain asks each record in turn.
use Rattle.std.proofs.Common.{rules}
use Rattle.table.specs.Decide.{mistagged}
use Rattle.table.specs.Reading.{table_in}
use Rattle.checker.proofs.Rules.{entry_at}
use Rattle.checker.proofs.Searches.{lowest_over}
use Rattle.checker.proofs.tags.lowest.Goals as goal

pub returns : goal.returns
returns c =
    let a = c.args in
    lowest_over (mistagged (table_in a.w.now.table.now)) a.w.now.count _ c.find.ensures.ran
    (λ x b q k. (search rules, λ h. search (rules, entry_at c.args.w.now.filled x h)))
