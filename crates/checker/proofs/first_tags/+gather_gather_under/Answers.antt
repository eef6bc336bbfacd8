-- The ways through the walk.
use Rattle.std.proofs.Common.{◌≡◌, ◌+◌, ◌-◌, ◌∙◌, sym, arith}
use Rattle.table.proofs.Walk.{same_size}
use Rattle.records.proofs.Promises.{first_described}
use Rattle.checker.proofs.Alike.{below_none}
use Rattle.checker.proofs.Gather.{going_from, going_mark, next_in, next_turn, gathered_seen, gathered_met, gathered_alone, gathered_under}
use Rattle.checker.proofs.Gather.{under_met, under_done, stand_in, stand_in_small, stand_in_within, gathers_of}
use Rattle.checker.proofs.Gather.{put_fewer, put_mark, alternatives_below}
use Rattle.checker.proofs.first_tags.+gather_gather_under.Goals as goal

pub gather-bounds-flags-q : goal.gather-bounds-flags-q
gather-bounds-flags-q t c = omega (arith, stand_in_small (gathers_of c.args.w.now.filled c.args.w.now.ready c.args.w.now.named c.told-flags c.requires))

pub gather-returns-then-f-mark : goal.gather-returns-then-f-mark
gather-returns-then-f-mark t c = gathered_seen _ _ _ _ _ (stand_in (gathers_of c.args.w.now.filled c.args.w.now.ready c.args.w.now.named c.told-flags c.requires)) c.if-f-mark.true

pub gather-returns-then-f-ne0 : goal.gather-returns-then-f-ne0
gather-returns-then-f-ne0 t c = gathered_met _ _ _ _ _ (stand_in (gathers_of c.args.w.now.filled c.args.w.now.ready c.args.w.now.named c.told-flags c.requires)) c.if-f-ne0.true c.if-f-mark.false

pub gather-bounds-flags-q-2 : goal.gather-bounds-flags-q-2
gather-bounds-flags-q-2 t c = omega (arith, stand_in_small (gathers_of c.args.w.now.filled c.args.w.now.ready c.args.w.now.named c.told-flags c.requires))

pub gather-returns-then-first-ne-UNTAGGED : goal.gather-returns-then-first-ne-UNTAGGED
gather-returns-then-first-ne-UNTAGGED t c =
    let x = gathers_of c.args.w.now.filled c.args.w.now.ready c.args.w.now.named c.told-flags c.requires in
    gathered_alone _ _ _ _ _ (stand_in x) (stand_in_within x) c.if-f-ne0.false (λ z. c.if-f-mark.false (c.if-f-ne0.false ∙ sym z))
    (below_none (x.filled.describes _ x.there).entered (λ z. c.if-first-ne-UNTAGGED.true (c.first.ensures ∙ first_described _ ∙ z)))

pub gather-gather_under-requires : goal.gather-gather_under-requires
gather-gather_under-requires t c =
    let x = gathers_of c.args.w.now.filled c.args.w.now.ready c.args.w.now.named c.told-flags c.requires in (
      omega (arith, put_fewer x c.if-f-ne0.false (λ z. c.if-f-mark.false (c.if-f-ne0.false ∙ sym z)), c.decreases),
      (c.requires, sym c.first.ensures ∙ c.if-first-ne-UNTAGGED.false),
    )

pub gather-returns : goal.gather-returns
gather-returns t c =
    let x = gathers_of c.args.w.now.filled c.args.w.now.ready c.args.w.now.named c.told-flags c.requires in
    gathered_under _ _ _ _ _ (stand_in x) (stand_in_within x) c.if-f-ne0.false (λ z. c.if-f-mark.false (c.if-f-ne0.false ∙ sym z))
    (rw (put_mark x) at c.gather_under.ensures)

pub gather_under-loop-at-init : goal.gather_under-loop-at-init
gather_under-loop-at-init t c =
    let s = c.alternatives-s.result in
    let q : s.first + s.count - s.first ≡ s.count = omega arith in (
      c.told-flags,
      omega arith,
      rw q (going_from _ (alternatives_below (gathers_of c.args.w.now.filled c.args.w.now.ready c.args.w.now.named c.told-flags c.requires.0) c.describe.ensures c.alternatives-s.ensures c.args.w.now.octets c.requires.1)),
    )

pub gather_under-gather-requires : goal.gather_under-gather-requires
gather_under-gather-requires t c = (
  omega (arith, c.loop-at.invariant.1, c.decreases),
  c.args.w.now.ready.closed _ _ c.requires.0 (next_in 1 _ _ _ _ c.loop-at.invariant.2 (omega arith) c.octet.ensures.0),
)

pub gather_under-returns-then-gather : goal.gather_under-returns-then-gather
gather_under-returns-then-gather t c =
    under_met _ _ _ _ _ _ _ c.loop-at.invariant.2 _ (omega arith) c.octet.ensures.0 c.loop-at.invariant.1
    (rw (going_mark c.loop-at.invariant.2) at c.gather.ensures) c.if-gather.true

pub gather_under-loop-at-preserved : goal.gather_under-loop-at-preserved
gather_under-loop-at-preserved t c =
    let l = c.loop-at in
    let s = c.alternatives-s.result in
    let q : s.first + s.count - (l.at + 1) ≡ s.first + s.count - l.at - 1 = omega arith in (
      same_size (c.gather.ensures.walked c.if-gather.false) ∙ l.invariant.0,
      omega (arith, l.invariant.1, c.gather.ensures.fewer),
      rw q (next_turn 1 _ _ _ _ l.invariant.2 (omega arith) c.octet.ensures.0 (rw (going_mark l.invariant.2) at c.gather.ensures) c.if-gather.false),
    )

pub gather_under-returns : goal.gather_under-returns
gather_under-returns t c = under_done _ _ _ _ _ _ _ c.loop-at.invariant.2 (omega arith) c.loop-at.invariant.1

pub gather_under-overflow_add-at-end : goal.gather_under-overflow_add-at-end
gather_under-overflow_add-at-end t c = rw c.alternatives-s.ensures (omega (arith, c.args.w.now.octets c.describe.result.own))
