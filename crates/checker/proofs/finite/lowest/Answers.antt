-- When no more is found, or each is marked, the lowest without a mark is the lowest without a finite value.
use Rattle.std.proofs.Common.{rules, tests, ◌≡◌, None, ◌∙◌, not, refl, sym, ap}
use Rattle.octets.specs.Numbers.{if_below}
use Rattle.checker.specs.Marks.{is_flagged, same}
use Rattle.checker.proofs.Rules.{filled_beyond}
use Rattle.checker.proofs.Searches.{lowest_over}
use Rattle.table.proofs.Straight.{zeros}
use Rattle.checker.proofs.Marks.{raised_on, raised_size, looked_closed, lowest_closed, lowest_full}
use Rattle.checker.proofs.finite.lowest.Goals as goal

pub loop-flags-init : goal.loop-flags-init
loop-flags-init c = (refl, same)

pub loop-flags-preserved : goal.loop-flags-preserved
loop-flags-preserved c = (
  raised_size _ c.round-more.ensures.raised ∙ c.loop-flags.invariant.0,
  raised_on _ c.loop-flags.invariant.1 c.round-more.ensures.raised,
)

pub returns-then-is_none : goal.returns-then-is_none
unfolding is_flagged
returns-then-is_none c =
    let f = lowest_over (λ t. not (is_flagged c.round-more.new.flags t)) c.args.w.now.count _ c.find-lowest.ensures.ran (λ x b q k. (search rules, λ h. search (rules, tests))) in
    let n : c.find-lowest.result ≡ None = search rules in
    sym n ∙ f ∙ ap (if_below c.args.w.now.count) (lowest_full _ _ (filled_beyond c.args.w.now.filled) _ _ (zeros 128) (raised_on _ c.loop-flags.invariant.1 c.round-more.ensures.raised) (sym n ∙ f))

pub returns-then-not-more : goal.returns-then-not-more
unfolding is_flagged
returns-then-not-more c =
    lowest_over (λ t. not (is_flagged c.round-more.new.flags t)) c.args.w.now.count _ c.find-lowest.ensures.ran (λ x b q k. (search rules, λ h. search (rules, tests)))
    ∙ ap (if_below c.args.w.now.count) (lowest_closed _ _ (filled_beyond c.args.w.now.filled) _ _ (zeros 128) (raised_on _ c.loop-flags.invariant.1 c.round-more.ensures.raised)
    (looked_closed _ _ c.round-more.ensures c.if-not-more.true))
