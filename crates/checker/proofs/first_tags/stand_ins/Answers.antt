-- One record more.
use Rattle.std.proofs.Common.{◌∙◌, below_more, get_or-set_same, get_or-set_other, arith}
use Rattle.std.proofs.Math.ListN.{length-set}
use Rattle.checker.proofs.Alike.{like_in_lem}
use Rattle.checker.proofs.first_tags.stand_ins.Goals as goal

pub loop-t-preserved : goal.loop-t-preserved
loop-t-preserved c =
    let l = c.loop-t in (
      length-set l.nodes l.t _ ∙ l.invariant.0,
      below_more _ l.t (λ k j. get_or-set_other l.nodes l.t k _ 0 (omega arith) ∙ l.invariant.1 k j)
          (get_or-set_same l.nodes l.t _ 0 (omega (arith, c.args.w.now.filled.few)) ∙ c.lowest_like.ensures
          ∙ like_in_lem _ _ _ c.args.w.now.octets c.args.w.now.filled l.t c.loop-t-test.true),
    )
