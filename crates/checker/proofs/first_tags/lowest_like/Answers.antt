-- The ways through the search for the record that stands for a first tag.
use Rattle.std.proofs.Common.{rules, tests, ◌∙◌, eqb, get_or}
use Rattle.records.specs.Entries.{unpacked}
use Rattle.checker.specs.Gathering.{tag_of}
use Rattle.checker.proofs.Alike.{like_none, like_some}
use Rattle.checker.proofs.Searches.{lowest_over, lowest_or}
use Rattle.checker.proofs.first_tags.lowest_like.Goals as goal

pub returns-then-tag-eq-UNTAGGED : goal.returns-then-tag-eq-UNTAGGED
returns-then-tag-eq-UNTAGGED c = like_none c.args.index.now _ c.first_tag-tag.ensures c.if-tag-eq-UNTAGGED.true

pub returns : goal.returns
returns c =
    let a = c.args in
    like_some a.index.now _ c.first_tag-tag.ensures c.if-tag-eq-UNTAGGED.false
    (c.unwrap_or.ensures
    ∙ lowest_or _ _ (lowest_over (λ w. eqb (tag_of (unpacked (get_or a.index.now w 0)).code) c.first_tag-tag.result) a.t _ c.find.ensures.ran
    (λ x b q k. (search rules, λ h. search (rules, tests)))))
