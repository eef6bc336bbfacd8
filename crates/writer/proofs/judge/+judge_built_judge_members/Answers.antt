-- The judge of what stands in a node: one law for each way through it.
-- Assumes nothing.
use Rattle.std.proofs.Common.{arith, sym, ◌+◌, ◌-◌, get_or, Ok}
use Rattle.std.proofs.lemmas.Result.{err_from_is_err_and}
use Rattle.records.specs.Descriptors.{described}
use Rattle.writer.proofs.Built.{at_node, own_none, own_some, built_shape, built_level, built_ill, built_stands, built_refused, built_done}
use Rattle.writer.proofs.Members.{row_small, members_begin, members_end_lem, members_pass, none_below, member, member_unmarked, member_not_awaited, member_refused, member_fit, member_small, member_there}
use Rattle.writer.proofs.Members.{Said, member_done, entry_known, entry_leaf, entry_built, leaf_said}
use Rattle.writer.proofs.judge.+judge_built_judge_members.Goals as goal
use Rattle.writer.proofs.judge.+judge_built_judge_members.Goals.{judge_members-then-r+in_ok-judged, judge_members-else-r+in_ok-judged-2}

pub judge_built-returns-then-is_none : goal.judge_built-returns-then-is_none
judge_built-returns-then-is_none t c =
    let a = c.args in
    let q = c.requires in
    let N = at_node a.table.now q.0 q.1 q.2 q.3 q.4 in
    rw c.unfit.ensures (built_shape N a.level (own_none _ _ _ (rw (c.describe-e.ensures, q.3) at c.own_end.ensures) c.is_none.ensures c.if-is_none.true) a.notes.now)

pub judge_built-returns-then-level-eq0 : goal.judge_built-returns-then-level-eq0
judge_built-returns-then-level-eq0 t c =
    let a = c.args in
    let q = c.requires in
    let N = at_node a.table.now q.0 q.1 q.2 q.3 q.4 in
    let s = own_some _ _ _ (rw (c.describe-e.ensures, q.3) at c.own_end.ensures) c.is_none.ensures c.if-is_none.false in
    rw c.unfit-then-level-eq0.ensures (built_level N a.level s c.if-level-eq0.true a.notes.now)

pub judge_built-agrees-requires : goal.judge_built-agrees-requires
judge_built-agrees-requires t c =
    let a = c.args in
    let q = c.requires in
    let N = at_node a.table.now q.0 q.1 q.2 q.3 q.4 in
    let s = own_some _ _ _ (rw (c.describe-e.ensures, q.3) at c.own_end.ensures) c.is_none.ensures c.if-is_none.false in
    (omega (arith, q.2.0, q.0), rw (c.describe-e.ensures, q.3) q.4, rw (c.describe-e.ensures, q.3) s)

pub judge_built-returns-then-not-agrees : goal.judge_built-returns-then-not-agrees
judge_built-returns-then-not-agrees t c =
    let a = c.args in
    let q = c.requires in
    let N = at_node a.table.now q.0 q.1 q.2 q.3 q.4 in
    let s = own_some _ _ _ (rw (c.describe-e.ensures, q.3) at c.own_end.ensures) c.is_none.ensures c.if-is_none.false in
    rw c.unfit-then-not-agrees.ensures
    (built_ill N a.level s c.if-level-eq0.false _ (rw c.describe-e.ensures at c.agrees.ensures) c.if-not-agrees.true a.notes.now)

pub judge_built-judge_members-requires : goal.judge_built-judge_members-requires
judge_built-judge_members-requires t c =
    let a = c.args in
    let q = c.requires in
    let N = at_node a.table.now q.0 q.1 q.2 q.3 q.4 in
    let s = own_some _ _ _ (rw (c.describe-e.ensures, q.3) at c.own_end.ensures) c.is_none.ensures c.if-is_none.false in (
      omega (arith, c.decreases, c.if-level-eq0.false),
      (
        q.0,
        built_stands N a.level s c.if-level-eq0.false _ (rw c.describe-e.ensures at c.agrees.ensures) c.if-not-agrees.false,
      ),
    )

pub judge_built-returns-in_err-judged : goal.judge_built-returns-in_err-judged
judge_built-returns-in_err-judged t c =
    let a = c.args in
    let q = c.requires in
    let N = at_node a.table.now q.0 q.1 q.2 q.3 q.4 in
    let s = own_some _ _ _ (rw (c.describe-e.ensures, q.3) at c.own_end.ensures) c.is_none.ensures c.if-is_none.false in
    let p = err_from_is_err_and c.from_residual.result c.from_residual.ensures.1 in
    rw (p.1, p.2)
    (built_refused N a.level s c.if-level-eq0.false _ (rw c.describe-e.ensures at c.agrees.ensures) c.if-not-agrees.false _
    a.notes.now _ c.judge_members.ensures c.in_err-judged.field-0.0.cause c.in_err-judged.field-0.0.place c.in_err-judged.was)

pub judge_built-overflow_cast-notes : goal.judge_built-overflow_cast-notes
judge_built-overflow_cast-notes t c =
    let a = c.args in
    let w = described (get_or a.table.now.index.now a.t 0) in
    let k = row_small a.table.now.octets.now a.v.now w (a.at + 3) (a.level - 1) a.notes.now c.judge_members.ensures c.in_ok-judged.judged c.in_ok-judged.was in
    omega arith

pub judge_built-returns : goal.judge_built-returns
judge_built-returns t c =
    let a = c.args in
    let q = c.requires in
    let d = c.in_ok-judged.judged in
    let N = at_node a.table.now q.0 q.1 q.2 q.3 q.4 in
    let s = own_some _ _ _ (rw (c.describe-e.ensures, q.3) at c.own_end.ensures) c.is_none.ensures c.if-is_none.false in
    built_done N a.level s c.if-level-eq0.false _ (rw c.describe-e.ensures at c.agrees.ensures) c.if-not-agrees.false _
    a.notes.now _ c.judge_members.ensures d.end d.size c.in_ok-judged.was c.told-notes

pub judge_members-loop-i-init : goal.judge_members-loop-i-init
judge_members-loop-i-init t c =
    let a = c.args in
    members_begin a.table.now.octets.now a.v.now (described a.w) a.p a.level a.notes.now c.requires.1.starts _ (rw c.describe-e.ensures at c.start-at.ensures)

pub judge_members-loop-i-preserved-in_default : goal.judge_members-loop-i-preserved-in_default
judge_members-loop-i-preserved-in_default t c =
    let a = c.args in
    members_pass a.table.now.octets.now a.v.now (described a.w) a.p a.level a.notes.now c.loop-i.i c.loop-i.at c.loop-i.total _ c.loop-i.invariant
    (rw c.describe-e.ensures at (rw c.count-n.ensures.0 at c.loop-i-test.true)) (none_below 256 _ (rw c.describe-e.ensures at c.in_default.ensures))

pub judge_members-returns-then-not-marked : goal.judge_members-returns-then-not-marked
judge_members-returns-then-not-marked t c =
    let m = member c.args.table.now c.requires.1 c.loop-i.invariant c.describe-e.ensures c.count-n.ensures.0 c.loop-i-test.true c.in-Some.t c.in-Some.ensures in
    rw c.unfit.ensures (member_unmarked m _ c.marked.ensures c.if-not-marked.true)

pub judge_members-returns-then-v-at : goal.judge_members-returns-then-v-at
judge_members-returns-then-v-at t c =
    let m = member c.args.table.now c.requires.1 c.loop-i.invariant c.describe-e.ensures c.count-n.ensures.0 c.loop-i-test.true c.in-Some.t c.in-Some.ensures in
    rw c.unfit-then-v-at.ensures (member_not_awaited m c.describe-r.result c.describe-r.ensures (rw c.octet.ensures at c.if-v-at.true) _ c.why_not_awaited.ensures)

pub judge_members-judge_leaf-requires : goal.judge_members-judge_leaf-requires
judge_members-judge_leaf-requires t c =
    let m = member c.args.table.now c.requires.1 c.loop-i.invariant c.describe-e.ensures c.count-n.ensures.0 c.loop-i-test.true c.in-Some.t c.in-Some.ensures in (
      c.requires.0,
      c.marked.ensures.yes c.if-not-marked.false,
      sym (rw c.octet.ensures at c.if-v-at.false),
      entry_leaf m c.describe-r.result c.describe-r.ensures c.if-r.true,
      entry_known m c.describe-r.result c.describe-r.ensures,
    )

pub judge_members-judge_built-requires : goal.judge_members-judge_built-requires
judge_members-judge_built-requires t c =
    let m = member c.args.table.now c.requires.1 c.loop-i.invariant c.describe-e.ensures c.count-n.ensures.0 c.loop-i-test.true c.in-Some.t c.in-Some.ensures in
    let o = rw c.octet.ensures at c.if-v-at.false in (
      omega (arith, c.decreases),
      (
        c.requires.0,
        member_there m,
        c.marked.ensures.yes c.if-not-marked.false,
        rw (← c.describe-r.ensures) (sym o),
        rw o (entry_built m c.describe-r.result c.describe-r.ensures c.if-r.false),
      ),
    )

pub judge_members-returns-in_err-judged : goal.judge_members-returns-in_err-judged
judge_members-returns-in_err-judged t c =
    let m = member c.args.table.now c.requires.1 c.loop-i.invariant c.describe-e.ensures c.count-n.ensures.0 c.loop-i-test.true c.in-Some.t c.in-Some.ensures in
    let p = err_from_is_err_and c.from_residual.result c.from_residual.ensures.1 in
    rw (p.1, p.2)
    (member_refused m _ _ (leaf_said m c.describe-r.result c.describe-r.ensures (rw c.octet.ensures at c.if-v-at.false) c.if-r.true _ c.judge_leaf.ensures)
    c.in_err-judged.field-0.0.cause c.in_err-judged.field-0.0.place c.in_err-judged.was)

pub judge_members-returns-in_err-judged-2 : goal.judge_members-returns-in_err-judged-2
judge_members-returns-in_err-judged-2 t c =
    let m = member c.args.table.now c.requires.1 c.loop-i.invariant c.describe-e.ensures c.count-n.ensures.0 c.loop-i-test.true c.in-Some.t c.in-Some.ensures in
    let p = err_from_is_err_and c.from_residual-in_err-judged-2.result c.from_residual-in_err-judged-2.ensures.1 in
    rw (p.1, p.2)
    (member_refused m _ _ c.judge_built.ensures c.in_err-judged-2.field-0.0.cause c.in_err-judged-2.field-0.0.place c.in_err-judged-2.was)

pub judge_members-size-requires : goal.judge_members-size-requires
judge_members-size-requires t c =
    let m = member c.args.table.now c.requires.1 c.loop-i.invariant c.describe-e.ensures c.count-n.ensures.0 c.loop-i-test.true c.in-Some.t c.in-Some.ensures in
    let S : Said m (Ok c.if-r.judged) c.if-r.notes =
    elim c.if-r.branch [
      | judge_members-then-r+in_ok-judged w ↦
          rw (w.judged-is, w.notes-is)
          (member_fit m _ _ (leaf_said m c.describe-r.result c.describe-r.ensures (rw c.octet.ensures at c.if-v-at.false) w.if-r.true _ w.judge_leaf.ensures) _ w.in_ok-judged.was)
      | judge_members-else-r+in_ok-judged-2 w ↦ rw (w.judged-is, w.notes-is) (member_fit m _ _ w.judge_built.ensures _ w.in_ok-judged-2.was)
    ] in
    (rw (← c.describe-r.ensures) (entry_known m c.describe-r.result c.describe-r.ensures), member_small m _ _ S)

pub judge_members-loop-i-preserved : goal.judge_members-loop-i-preserved
judge_members-loop-i-preserved t c =
    let m = member c.args.table.now c.requires.1 c.loop-i.invariant c.describe-e.ensures c.count-n.ensures.0 c.loop-i-test.true c.in-Some.t c.in-Some.ensures in
    let S : Said m (Ok c.if-r.judged) c.if-r.notes =
    elim c.if-r.branch [
      | judge_members-then-r+in_ok-judged w ↦
          rw (w.judged-is, w.notes-is)
          (member_fit m _ _ (leaf_said m c.describe-r.result c.describe-r.ensures (rw c.octet.ensures at c.if-v-at.false) w.if-r.true _ w.judge_leaf.ensures) _ w.in_ok-judged.was)
      | judge_members-else-r+in_ok-judged-2 w ↦ rw (w.judged-is, w.notes-is) (member_fit m _ _ w.judge_built.ensures _ w.in_ok-judged-2.was)
    ] in
    member_done m c.describe-r.result c.describe-r.ensures _ _ S _ _ (rw (← c.describe-r.ensures) at c.size.ensures.0) c.grow-total.ensures.0

pub judge_members-returns : goal.judge_members-returns
judge_members-returns t c =
    let a = c.args in
    members_end_lem a.table.now.octets.now a.v.now (described a.w) a.p a.level a.notes.now c.loop-i.i c.loop-i.at c.loop-i.total _ c.loop-i.invariant
    (omega (arith, rw c.describe-e.ensures at c.count-n.ensures.0))
