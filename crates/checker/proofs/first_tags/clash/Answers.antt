-- The parts so far, and the next one.
use Rattle.std.proofs.Common.{◌≡◌, ◌+◌, ◌-◌, ◌*◌, ◌∙◌, refl, arith}
use Rattle.std.proofs.lemmas.Bool.{true≢false, false≢true}
use Rattle.std.proofs.Math.ListN.{length-set}
use Rattle.table.proofs.Walk.{same_size}
use Rattle.table.proofs.Straight.{zeros}
use Rattle.checker.proofs.Flags.{walked_one, met_low}
use Rattle.checker.proofs.Gather.{every_none}
use Rattle.checker.proofs.Runs.{lone_part}
use Rattle.checker.proofs.Shared.{owned_start, owned_next, owned_in, owned_turn, owned_met, owned_end}
use Rattle.checker.proofs.first_tags.clash.Goals as goal

pub returns-then-s-lt2 : goal.returns-then-s-lt2
returns-then-s-lt2 c = (λ z. absurd (false≢true z), λ _. lone_part _ _ _ _ c.if-s-lt2.true)

pub loop-k-init : goal.loop-k-init
loop-k-init c =
    let s = c.args.s in
    let p : s.first + s.step * 0 ≡ s.first = omega arith in
    let n : s.count - 0 ≡ s.count = omega arith in
    (refl, rw (p, n) (owned_start _ (zeros 128) refl))

pub gather-requires : goal.gather-requires
gather-requires c =
    let x = c.requires in
    let l = c.loop-k in
    x.there _ (owned_in (owned_next _ _ _ _ _ l.invariant.1 (omega arith) c.octet-a.ensures.0))

pub returns-then-gather : goal.returns-then-gather
returns-then-gather c =
    let x = c.requires in
    let l = c.loop-k in (
      λ _. owned_met _ _ x.straight c.args.w.now.ready.closed _ x.there _ _
          (owned_next _ _ _ _ _ l.invariant.1 (omega arith) c.octet-a.ensures.0)
          (met_low l.flags _ l.invariant.0 (c.gather.ensures.met c.if-gather.true)),
      λ z. absurd (true≢false z),
    )

pub loop-k-preserved : goal.loop-k-preserved
loop-k-preserved c =
    let x = c.requires in
    let l = c.loop-k in
    let s = c.args.s in
    let o = owned_next _ _ _ _ _ l.invariant.1 (omega arith) c.octet-a.ensures.0 in
    let w = c.gather.ensures.walked c.if-gather.false in
    let p : s.first + s.step * (l.k + 1) ≡ s.first + s.step * l.k + s.step = omega arith in
    let n : s.count - (l.k + 1) ≡ s.count - l.k - 1 = omega arith in (
      same_size w ∙ length-set l.flags 128 _ ∙ l.invariant.0,
      rw (p, n) (owned_turn _ _ _ _ _ _ _ o (walked_one l.flags _ l.invariant.0 c.args.w.now.filled.few c.args.w.now.ready.closed (x.there _ (owned_in o)) w)),
    )

pub returns : goal.returns
returns c = (
  λ z. absurd (false≢true z),
  λ _. owned_end _ _ _ _ (rw (every_none _ _ _ (c.args.s.count - c.loop-k.k) (omega arith)) at c.loop-k.invariant.1),
)
