-- A run ends at its first mandatory member, or at the last one.
use Rattle.std.proofs.Common.{◌≡◌, ◌-◌, not, rules, tests, arith}
use Rattle.octets.specs.Lists.{lowest}
use Rattle.octets.proofs.Search.{lowest_most}
use Rattle.checker.specs.Gathering.{optional_in}
use Rattle.checker.proofs.Searches.{lowest_over, lowest_or}
use Rattle.checker.proofs.first_tags.run_length.Goals as goal
use Rattle.checker.proofs.first_tags.run_length.Goals.{In-Some, In-None}

first_is : (c : In-Some) → c.in-Some.k ≡ lowest (λ k. not (optional_in c.args.table.now c.args.at k)) (c.args.left - 1)
first_is c =
    let a = c.args in
    let f = lowest_over (λ k. not (optional_in a.table.now a.at k)) (a.left - 1) _ c.find.ensures.ran
    (λ x b q k. (search rules, λ h. search (rules, tests))) in
    rw c.in-Some.is at (lowest_or _ _ f)

none_is : (c : In-None) → c.args.left - 1 ≡ lowest (λ k. not (optional_in c.args.table.now c.args.at k)) (c.args.left - 1)
none_is c =
    let a = c.args in
    let f = lowest_over (λ k. not (optional_in a.table.now a.at k)) (a.left - 1) _ c.find.ensures.ran
    (λ x b q k. (search rules, λ h. search (rules, tests))) in
    rw c.in-None.is at (lowest_or _ _ f)

pub overflow_add-result : goal.overflow_add-result
overflow_add-result c = omega (arith, first_is c, lowest_most (λ k. not (optional_in c.args.table.now c.args.at k)) (c.args.left - 1))

pub returns-in-Some : goal.returns-in-Some
returns-in-Some c = omega (arith, first_is c)

pub returns-in-None : goal.returns-in-None
returns-in-None c = omega (arith, none_is c)
