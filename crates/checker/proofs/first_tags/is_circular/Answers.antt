-- A record with tags is in no circle. Of a CHOICE without tags the walk from its alternatives comes back or not.
use Rattle.std.proofs.Common.{◌∙◌, replicate, refl, sym}
use Rattle.table.proofs.Decided.{circular_is}
use Rattle.table.proofs.Straight.{zeros}
use Rattle.records.proofs.Promises.{first_described}
use Rattle.checker.proofs.Alike.{below_none}
use Rattle.checker.proofs.Rules.{filled_beyond}
use Rattle.checker.proofs.Shared.{no_circle, circle_end}
use Rattle.checker.proofs.first_tags.is_circular.Goals as goal

pub returns-then-first-ne-UNTAGGED : goal.returns-then-first-ne-UNTAGGED
returns-then-first-ne-UNTAGGED c =
    let x = c.args.w.now.filled in
    let r = c.args.w.now.ready in
    let h = c.requires in
    sym (no_circle _ _ _ (below_none (x.describes _ h).entered (λ z. c.if-first-ne-UNTAGGED.true (c.first.ensures ∙ first_described _ ∙ z))))

pub gather_under-requires : goal.gather_under-requires
gather_under-requires c =
    (c.requires, sym c.first.ensures ∙ c.if-first-ne-UNTAGGED.false)

pub returns : goal.returns
returns c =
    let x = c.args.w.now.filled in
    let r = c.args.w.now.ready in
    let h = c.requires in
    sym (circular_is _ _ (filled_beyond x) _ _ h (circle_end x.few r.closed _ h (replicate 129 0) refl (zeros 128) c.gather_under.ensures _ refl))
