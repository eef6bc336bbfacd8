-- `reader::judge::judge_members` and `judge_value` meet their contracts, by the levels that are left: one law for each way through them.
-- Assumes nothing.
use Rattle.std.proofs.Common.{◌≡◌, ◌+◌, ◌∙◌, inl, inr, Err, rules, arith}
use Rattle.ber.proofs.Places.{part_to_end}
use Rattle.kinds.specs.declared.Kind.TheVariants.{Set}
use Rattle.kinds.proofs.Same.{is_kind, not_kind}
use Rattle.table.specs.Reading.{table_in}
use Rattle.checker.proofs.Ready.{ready_by}
use Rattle.reader.proofs.Tagging.{its_entry}
use Rattle.reader.proofs.ValueParts.{under_tags, under_bare, contents_within, contents_short, items_known, items_some}
use Rattle.reader.proofs.JudgedValue.{ended_of, item_of, filling_of, over_leaf, over_items, items_low, item_closes, leaf_kind_lem}
use Rattle.reader.proofs.JudgedValue.{value_unopened, extent_refused, value_wrong, value_unheld, value_closed, value_over}
use Rattle.reader.proofs.JudgedMembers.{setting_of, turn_of, turn_asks, comes_of, count_few, judging_first, judging_sound, judged_over, judged_stopped, judged_unfit}
use Rattle.reader.proofs.JudgedMembers.{place_few, behind_few, judged_level, is_record, is_headed}
use Rattle.reader.proofs.JudgedMembers.{Valued, judged_refused, sizes_few, value_further, value_low, judged_one, judged_turn}
use Rattle.reader.proofs.judge.+judge_members_judge_value.Goals as goal
use Rattle.reader.proofs.judge.+judge_members_judge_value.Goals.{judge_members-in-Some, judge_members-in-None+in-Ok}
use Rattle.reader.proofs.judge.+judge_members_judge_value.Goals.{judge_members-then-eq, judge_members-else-eq}
use Rattle.reader.proofs.judge.+judge_members_judge_value.Goals.{judge_value-then-e-gt0+in_ok-x, judge_value-else-e-gt0, judge_value-then-e+in_ok-inside, judge_value-else-e+in-Ok-judge_members}

pub judge_members-node_size-total-requires : goal.judge_members-node_size-total-requires
judge_members-node_size-total-requires t c =
    omega (arith, count_few (setting_of c.args.table.now c.requires c.describe-e.ensures c.parts-s.ensures))

pub judge_members-loop-end-init : goal.judge_members-loop-end-init
judge_members-loop-end-init t c =
    record { low = omega arith; so_far = judging_first (setting_of c.args.table.now c.requires c.describe-e.ensures c.parts-s.ensures) _ c.node_size-total.ensures _ _ _ c.requires.some }

pub judge_members-next-requires : goal.judge_members-next-requires
judge_members-next-requires t c =
    (judging_sound (setting_of c.args.table.now c.requires c.describe-e.ensures c.parts-s.ensures) c.loop-end.invariant.so_far, c.requires.holds)

pub judge_members-returns-in-Ok-Some : goal.judge_members-returns-in-Ok-Some
judge_members-returns-in-Ok-Some t c =
    let l = c.loop-end.invariant in
    let P = turn_of c.args.table.now c.requires c.describe-e.ensures c.parts-s.ensures (λ i. omega (arith, c.type_inv.m i)) l.low l.so_far c.next.ensures in
    judged_over P _ (rw c.in-Ok-Some.field-0-is at c.in-Ok-Some.is)

pub judge_members-returns-in-Err : goal.judge_members-returns-in-Err
judge_members-returns-in-Err t c =
    let l = c.loop-end.invariant in
    let P = turn_of c.args.table.now c.requires c.describe-e.ensures c.parts-s.ensures (λ i. omega (arith, c.type_inv.m i)) l.low l.so_far c.next.ensures in
    judged_stopped P _ c.in-Err.is

pub judge_members-in_turn-requires : goal.judge_members-in_turn-requires
judge_members-in_turn-requires t c =
    let l = c.loop-end.invariant in
    let P = turn_of c.args.table.now c.requires c.describe-e.ensures c.parts-s.ensures (λ i. omega (arith, c.type_inv.m i)) l.low l.so_far c.next.ensures in
    turn_asks P (rw c.in-Ok-None.field-0-is at c.in-Ok-None.is)

pub judge_members-returns-in-Err-search : goal.judge_members-returns-in-Err-search
judge_members-returns-in-Err-search t c =
    let l = c.loop-end.invariant in
    let P = turn_of c.args.table.now c.requires c.describe-e.ensures c.parts-s.ensures (λ i. omega (arith, c.type_inv.m i)) l.low l.so_far c.next.ensures in
    judged_unfit P (rw c.in-Ok-None.field-0-is at c.in-Ok-None.is) _ _ _ c.search.ensures c.in-Err-search.is

pub judge_members-returns-then-level-x : goal.judge_members-returns-then-level-x
judge_members-returns-then-level-x t c =
    let l = c.loop-end.invariant in
    let P = turn_of c.args.table.now c.requires c.describe-e.ensures c.parts-s.ensures (λ i. omega (arith, c.type_inv.m i)) l.low l.so_far c.next.ensures in
    let X = comes_of P (rw c.in-Ok-None.field-0-is at c.in-Ok-None.is) c.match-in_turn.x c.match-in_turn.way' (elim c.match-in_turn.branch [
      | judge_members-in-Some w ↦ rw (w.way'-is, w.x-is) ((c.in_turn.ensures _ w.in-Some.is).2 _)
      | judge_members-in-None+in-Ok w ↦ rw (w.way'-is, w.x-is) (rw (part_to_end c.args.m.now c.loop-end.at, w.in-Ok.is) at w.search.ensures)
    ]) in
    judged_level X c.if-level-x.true

pub judge_members-bounds-came-x : goal.judge_members-bounds-came-x
judge_members-bounds-came-x t c =
    let l = c.loop-end.invariant in
    let P = turn_of c.args.table.now c.requires c.describe-e.ensures c.parts-s.ensures (λ i. omega (arith, c.type_inv.m i)) l.low l.so_far c.next.ensures in
    let X = comes_of P (rw c.in-Ok-None.field-0-is at c.in-Ok-None.is) c.match-in_turn.x c.match-in_turn.way' (elim c.match-in_turn.branch [
      | judge_members-in-Some w ↦ rw (w.way'-is, w.x-is) ((c.in_turn.ensures _ w.in-Some.is).2 _)
      | judge_members-in-None+in-Ok w ↦ rw (w.way'-is, w.x-is) (rw (part_to_end c.args.m.now c.loop-end.at, w.in-Ok.is) at w.search.ensures)
    ]) in
    place_few X

pub judge_members-offset_bounds-came-x : goal.judge_members-offset_bounds-came-x
judge_members-offset_bounds-came-x t c = omega (arith, judge_members-bounds-came-x t c)

pub judge_members-overflow_add-j : goal.judge_members-overflow_add-j
judge_members-overflow_add-j t c =
    let l = c.loop-end.invariant in
    let P = turn_of c.args.table.now c.requires c.describe-e.ensures c.parts-s.ensures (λ i. omega (arith, c.type_inv.m i)) l.low l.so_far c.next.ensures in
    let X = comes_of P (rw c.in-Ok-None.field-0-is at c.in-Ok-None.is) c.match-in_turn.x c.match-in_turn.way' (elim c.match-in_turn.branch [
      | judge_members-in-Some w ↦ rw (w.way'-is, w.x-is) ((c.in_turn.ensures _ w.in-Some.is).2 _)
      | judge_members-in-None+in-Ok w ↦ rw (w.way'-is, w.x-is) (rw (part_to_end c.args.m.now c.loop-end.at, w.in-Ok.is) at w.search.ensures)
    ]) in
    omega (arith, behind_few X)

pub judge_members-bounds-table-x : goal.judge_members-bounds-table-x
judge_members-bounds-table-x t c =
    let l = c.loop-end.invariant in
    let P = turn_of c.args.table.now c.requires c.describe-e.ensures c.parts-s.ensures (λ i. omega (arith, c.type_inv.m i)) l.low l.so_far c.next.ensures in
    let X = comes_of P (rw c.in-Ok-None.field-0-is at c.in-Ok-None.is) c.match-in_turn.x c.match-in_turn.way' (elim c.match-in_turn.branch [
      | judge_members-in-Some w ↦ rw (w.way'-is, w.x-is) ((c.in_turn.ensures _ w.in-Some.is).2 _)
      | judge_members-in-None+in-Ok w ↦ rw (w.way'-is, w.x-is) (rw (part_to_end c.args.m.now c.loop-end.at, w.in-Ok.is) at w.search.ensures)
    ]) in
    omega (arith, X.is.there, (ready_by c.args.table.now).passes.few)

pub judge_members-offset_bounds-table-x : goal.judge_members-offset_bounds-table-x
judge_members-offset_bounds-table-x t c = omega (arith, judge_members-bounds-table-x t c)

pub judge_members-overflow_add-at : goal.judge_members-overflow_add-at
judge_members-overflow_add-at t c =
    let l = c.loop-end.invariant in
    let P = turn_of c.args.table.now c.requires c.describe-e.ensures c.parts-s.ensures (λ i. omega (arith, c.type_inv.m i)) l.low l.so_far c.next.ensures in
    let X = comes_of P (rw c.in-Ok-None.field-0-is at c.in-Ok-None.is) c.match-in_turn.x c.match-in_turn.way' (elim c.match-in_turn.branch [
      | judge_members-in-Some w ↦ rw (w.way'-is, w.x-is) ((c.in_turn.ensures _ w.in-Some.is).2 _)
      | judge_members-in-None+in-Ok w ↦ rw (w.way'-is, w.x-is) (rw (part_to_end c.args.m.now c.loop-end.at, w.in-Ok.is) at w.search.ensures)
    ]) in
    omega (arith, X.is.low, c.requires.short)

pub judge_members-judge_value-requires : goal.judge_members-judge_value-requires
judge_members-judge_value-requires t c =
    let l = c.loop-end.invariant in
    let P = turn_of c.args.table.now c.requires c.describe-e.ensures c.parts-s.ensures (λ i. omega (arith, c.type_inv.m i)) l.low l.so_far c.next.ensures in
    let X = comes_of P (rw c.in-Ok-None.field-0-is at c.in-Ok-None.is) c.match-in_turn.x c.match-in_turn.way' (elim c.match-in_turn.branch [
      | judge_members-in-Some w ↦ rw (w.way'-is, w.x-is) ((c.in_turn.ensures _ w.in-Some.is).2 _)
      | judge_members-in-None+in-Ok w ↦ rw (w.way'-is, w.x-is) (rw (part_to_end c.args.m.now c.loop-end.at, w.in-Ok.is) at w.search.ensures)
    ]) in
    let q = c.requires in (
      omega arith,
      record {
        is = is_record X;
        headed = is_headed X;
        short = q.short;
        levels = omega (arith, q.levels);
      },
    )

pub judge_members-returns-in_err-y : goal.judge_members-returns-in_err-y
judge_members-returns-in_err-y t c =
    let l = c.loop-end.invariant in
    let P = turn_of c.args.table.now c.requires c.describe-e.ensures c.parts-s.ensures (λ i. omega (arith, c.type_inv.m i)) l.low l.so_far c.next.ensures in
    let X = comes_of P (rw c.in-Ok-None.field-0-is at c.in-Ok-None.is) c.match-in_turn.x c.match-in_turn.way' (elim c.match-in_turn.branch [
      | judge_members-in-Some w ↦ rw (w.way'-is, w.x-is) ((c.in_turn.ensures _ w.in-Some.is).2 _)
      | judge_members-in-None+in-Ok w ↦ rw (w.way'-is, w.x-is) (rw (part_to_end c.args.m.now c.loop-end.at, w.in-Ok.is) at w.search.ensures)
    ]) in
    let V : Valued X = record { deep = c.if-level-x.false; r = c.judge_value.result; said = c.judge_value.ensures } in
    let e : c.from_residual.result ≡ Err c.in_err-y.field-0.0 = search rules in
    e ∙ judged_refused V c.in_err-y.field-0.0.cause c.in_err-y.field-0.0.left c.in_err-y.was

pub judge_members-overflow_add-y : goal.judge_members-overflow_add-y
judge_members-overflow_add-y t c =
    let l = c.loop-end.invariant in
    let P = turn_of c.args.table.now c.requires c.describe-e.ensures c.parts-s.ensures (λ i. omega (arith, c.type_inv.m i)) l.low l.so_far c.next.ensures in
    let X = comes_of P (rw c.in-Ok-None.field-0-is at c.in-Ok-None.is) c.match-in_turn.x c.match-in_turn.way' (elim c.match-in_turn.branch [
      | judge_members-in-Some w ↦ rw (w.way'-is, w.x-is) ((c.in_turn.ensures _ w.in-Some.is).2 _)
      | judge_members-in-None+in-Ok w ↦ rw (w.way'-is, w.x-is) (rw (part_to_end c.args.m.now c.loop-end.at, w.in-Ok.is) at w.search.ensures)
    ]) in
    let V : Valued X = record { deep = c.if-level-x.false; r = c.judge_value.result; said = c.judge_value.ensures } in
    omega (arith, (sizes_few V c.in_ok-y.y.end c.in_ok-y.y.size c.in_ok-y.was).1)

pub judge_members-grow-total-requires : goal.judge_members-grow-total-requires
judge_members-grow-total-requires t c =
    let l = c.loop-end.invariant in
    let P = turn_of c.args.table.now c.requires c.describe-e.ensures c.parts-s.ensures (λ i. omega (arith, c.type_inv.m i)) l.low l.so_far c.next.ensures in
    let X = comes_of P (rw c.in-Ok-None.field-0-is at c.in-Ok-None.is) c.match-in_turn.x c.match-in_turn.way' (elim c.match-in_turn.branch [
      | judge_members-in-Some w ↦ rw (w.way'-is, w.x-is) ((c.in_turn.ensures _ w.in-Some.is).2 _)
      | judge_members-in-None+in-Ok w ↦ rw (w.way'-is, w.x-is) (rw (part_to_end c.args.m.now c.loop-end.at, w.in-Ok.is) at w.search.ensures)
    ]) in
    let V : Valued X = record { deep = c.if-level-x.false; r = c.judge_value.result; said = c.judge_value.ensures } in
    sizes_few V c.in_ok-y.y.end c.in_ok-y.y.size c.in_ok-y.was

pub judge_members-returns-then-holds_one : goal.judge_members-returns-then-holds_one
judge_members-returns-then-holds_one t c =
    let l = c.loop-end.invariant in
    let P = turn_of c.args.table.now c.requires c.describe-e.ensures c.parts-s.ensures (λ i. omega (arith, c.type_inv.m i)) l.low l.so_far c.next.ensures in
    let X = comes_of P (rw c.in-Ok-None.field-0-is at c.in-Ok-None.is) c.match-in_turn.x c.match-in_turn.way' (elim c.match-in_turn.branch [
      | judge_members-in-Some w ↦ rw (w.way'-is, w.x-is) ((c.in_turn.ensures _ w.in-Some.is).2 _)
      | judge_members-in-None+in-Ok w ↦ rw (w.way'-is, w.x-is) (rw (part_to_end c.args.m.now c.loop-end.at, w.in-Ok.is) at w.search.ensures)
    ]) in
    let V : Valued X = record { deep = c.if-level-x.false; r = c.judge_value.result; said = c.judge_value.ensures } in
    judged_one V c.in_ok-y.y.end c.in_ok-y.y.size c.in_ok-y.was _ c.grow-total.ensures _ c.holds_one.ensures c.if-holds_one.true

pub judge_members-loop-end-smaller : goal.judge_members-loop-end-smaller
judge_members-loop-end-smaller t c =
    let l = c.loop-end.invariant in
    let P = turn_of c.args.table.now c.requires c.describe-e.ensures c.parts-s.ensures (λ i. omega (arith, c.type_inv.m i)) l.low l.so_far c.next.ensures in
    let X = comes_of P (rw c.in-Ok-None.field-0-is at c.in-Ok-None.is) c.match-in_turn.x c.match-in_turn.way' (elim c.match-in_turn.branch [
      | judge_members-in-Some w ↦ rw (w.way'-is, w.x-is) ((c.in_turn.ensures _ w.in-Some.is).2 _)
      | judge_members-in-None+in-Ok w ↦ rw (w.way'-is, w.x-is) (rw (part_to_end c.args.m.now c.loop-end.at, w.in-Ok.is) at w.search.ensures)
    ]) in
    let V : Valued X = record { deep = c.if-level-x.false; r = c.judge_value.result; said = c.judge_value.ensures } in
    omega
    (arith, value_further V c.in_ok-y.y.end c.in_ok-y.y.size c.in_ok-y.was, value_low V c.in_ok-y.y.end c.in_ok-y.y.size c.in_ok-y.was)

pub judge_members-loop-end-preserved : goal.judge_members-loop-end-preserved
judge_members-loop-end-preserved t c =
    let l = c.loop-end.invariant in
    let P = turn_of c.args.table.now c.requires c.describe-e.ensures c.parts-s.ensures (λ i. omega (arith, c.type_inv.m i)) l.low l.so_far c.next.ensures in
    let X = comes_of P (rw c.in-Ok-None.field-0-is at c.in-Ok-None.is) c.match-in_turn.x c.match-in_turn.way' (elim c.match-in_turn.branch [
      | judge_members-in-Some w ↦ rw (w.way'-is, w.x-is) ((c.in_turn.ensures _ w.in-Some.is).2 _)
      | judge_members-in-None+in-Ok w ↦ rw (w.way'-is, w.x-is) (rw (part_to_end c.args.m.now c.loop-end.at, w.in-Ok.is) at w.search.ensures)
    ]) in
    let V : Valued X = record { deep = c.if-level-x.false; r = c.judge_value.result; said = c.judge_value.ensures } in
    record {
      low = value_low V c.in_ok-y.y.end c.in_ok-y.y.size c.in_ok-y.was;
      so_far = judged_turn V c.in_ok-y.y.end c.in_ok-y.y.size c.in_ok-y.was _ c.grow-total.ensures _ c.holds_one.ensures c.if-holds_one.false _
          (elim c.if-eq.branch [
            | judge_members-then-eq x ↦ inl (is_kind c.describe-e.result.kind Set c.eq.ensures x.if-eq.true, x.came-is)
            | judge_members-else-eq x ↦ inr (not_kind c.describe-e.result.kind Set c.eq.ensures x.if-eq.false, x.came-is)
          ]);
    }

pub judge_value-returns-in_err-x : goal.judge_value-returns-in_err-x
judge_value-returns-in_err-x t c =
    let q = c.requires in
    let o = c.«open» in
    let f = c.in_err-x.field-0.0 in
    let e : c.from_residual.result ≡ Err c.in_err-x.field-0.0 = search rules in
    e ∙ value_unopened (ready_by c.args.table.now) q.is _ _ _ o.result o.ensures f.cause f.left c.in_err-x.was c.args.level

pub judge_value-returns-in-Err : goal.judge_value-returns-in-Err
judge_value-returns-in-Err t c =
    let q = c.requires in
    let p = c.args.table.now in
    let I = item_of p q c.describe-e.ensures (λ i. omega (arith, c.type_inv.m i)) c.if-e-gt0.notes c.if-e-gt0.x (elim c.if-e-gt0.branch [
      | judge_value-then-e-gt0+in_ok-x x ↦ rw (x.notes-is, x.x-is) (under_tags (ready_by p) q.is c.args.m.now c.args.at _ x.«open».result x.«open».ensures _ x.in_ok-x.was)
      | judge_value-else-e-gt0 x ↦ rw (x.notes-is, x.x-is) (under_bare (ready_by p) q.is _ c.describe-e.ensures c.args.m.now c.args.at c.args.from x.if-e-gt0.false q.headed _)
    ]) in
    extent_refused I c.extent.result c.extent.ensures c.in-Err.cause c.in-Err.is

pub judge_value-slice_bounds-c-count : goal.judge_value-slice_bounds-c-count
judge_value-slice_bounds-c-count t c =
    let q = c.requires in
    let p = c.args.table.now in
    let I = item_of p q c.describe-e.ensures (λ i. omega (arith, c.type_inv.m i)) c.if-e-gt0.notes c.if-e-gt0.x (elim c.if-e-gt0.branch [
      | judge_value-then-e-gt0+in_ok-x x ↦ rw (x.notes-is, x.x-is) (under_tags (ready_by p) q.is c.args.m.now c.args.at _ x.«open».result x.«open».ensures _ x.in_ok-x.was)
      | judge_value-else-e-gt0 x ↦ rw (x.notes-is, x.x-is) (under_bare (ready_by p) q.is _ c.describe-e.ensures c.args.m.now c.args.at c.args.from x.if-e-gt0.false q.headed _)
    ]) in
    let F = filling_of I c.extent.ensures c.in-Ok.is in
    (contents_within F).0

pub judge_value-slice_bounds-c-end : goal.judge_value-slice_bounds-c-end
judge_value-slice_bounds-c-end t c =
    let q = c.requires in
    let p = c.args.table.now in
    let I = item_of p q c.describe-e.ensures (λ i. omega (arith, c.type_inv.m i)) c.if-e-gt0.notes c.if-e-gt0.x (elim c.if-e-gt0.branch [
      | judge_value-then-e-gt0+in_ok-x x ↦ rw (x.notes-is, x.x-is) (under_tags (ready_by p) q.is c.args.m.now c.args.at _ x.«open».result x.«open».ensures _ x.in_ok-x.was)
      | judge_value-else-e-gt0 x ↦ rw (x.notes-is, x.x-is) (under_bare (ready_by p) q.is _ c.describe-e.ensures c.args.m.now c.args.at c.args.from x.if-e-gt0.false q.headed _)
    ]) in
    let F = filling_of I c.extent.ensures c.in-Ok.is in
    (contents_within F).1

pub judge_value-slice_bounds-c-start : goal.judge_value-slice_bounds-c-start
judge_value-slice_bounds-c-start t c = omega (arith, judge_value-slice_bounds-c-count t c, judge_value-slice_bounds-c-end t c)

pub judge_value-overflow_sub-behind : goal.judge_value-overflow_sub-behind
judge_value-overflow_sub-behind t c =
    let q = c.requires in
    let p = c.args.table.now in
    let I = item_of p q c.describe-e.ensures (λ i. omega (arith, c.type_inv.m i)) c.if-e-gt0.notes c.if-e-gt0.x (elim c.if-e-gt0.branch [
      | judge_value-then-e-gt0+in_ok-x x ↦ rw (x.notes-is, x.x-is) (under_tags (ready_by p) q.is c.args.m.now c.args.at _ x.«open».result x.«open».ensures _ x.in_ok-x.was)
      | judge_value-else-e-gt0 x ↦ rw (x.notes-is, x.x-is) (under_bare (ready_by p) q.is _ c.describe-e.ensures c.args.m.now c.args.at c.args.from x.if-e-gt0.false q.headed _)
    ]) in
    let F = filling_of I c.extent.ensures c.in-Ok.is in
    (contents_within F).1

pub judge_value-judge_contents-requires : goal.judge_value-judge_contents-requires
judge_value-judge_contents-requires t c =
    let q = c.requires in
    let p = c.args.table.now in
    let I = item_of p q c.describe-e.ensures (λ i. omega (arith, c.type_inv.m i)) c.if-e-gt0.notes c.if-e-gt0.x (elim c.if-e-gt0.branch [
      | judge_value-then-e-gt0+in_ok-x x ↦ rw (x.notes-is, x.x-is) (under_tags (ready_by p) q.is c.args.m.now c.args.at _ x.«open».result x.«open».ensures _ x.in_ok-x.was)
      | judge_value-else-e-gt0 x ↦ rw (x.notes-is, x.x-is) (under_bare (ready_by p) q.is _ c.describe-e.ensures c.args.m.now c.args.at c.args.from x.if-e-gt0.false q.headed _)
    ]) in
    let F = filling_of I c.extent.ensures c.in-Ok.is in (
      table_in c.args.table.now.octets.now q.is.0,
      rw c.describe-e.ensures (its_entry (ready_by p) q.is),
      leaf_kind_lem F c.if-e.true,
      contents_short F,
      omega (arith, q.short),
      c.if-e.true,
    )

pub judge_value-returns-in_err-inside : goal.judge_value-returns-in_err-inside
judge_value-returns-in_err-inside t c =
    let q = c.requires in
    let p = c.args.table.now in
    let I = item_of p q c.describe-e.ensures (λ i. omega (arith, c.type_inv.m i)) c.if-e-gt0.notes c.if-e-gt0.x (elim c.if-e-gt0.branch [
      | judge_value-then-e-gt0+in_ok-x x ↦ rw (x.notes-is, x.x-is) (under_tags (ready_by p) q.is c.args.m.now c.args.at _ x.«open».result x.«open».ensures _ x.in_ok-x.was)
      | judge_value-else-e-gt0 x ↦ rw (x.notes-is, x.x-is) (under_bare (ready_by p) q.is _ c.describe-e.ensures c.args.m.now c.args.at c.args.from x.if-e-gt0.false q.headed _)
    ]) in
    let F = filling_of I c.extent.ensures c.in-Ok.is in
    let r = c.judge_contents in
    let f = c.in_err-inside.field-0.0 in
    let e : c.from_residual-in_err-inside.result ≡ Err c.in_err-inside.field-0.0 = search rules in
    e ∙ value_wrong F c.if-e.true r.result r.ensures f.cause f.left c.in_err-inside.was

pub judge_value-judge_members-requires : goal.judge_value-judge_members-requires
judge_value-judge_members-requires t c =
    let q = c.requires in
    let p = c.args.table.now in
    let I = item_of p q c.describe-e.ensures (λ i. omega (arith, c.type_inv.m i)) c.if-e-gt0.notes c.if-e-gt0.x (elim c.if-e-gt0.branch [
      | judge_value-then-e-gt0+in_ok-x x ↦ rw (x.notes-is, x.x-is) (under_tags (ready_by p) q.is c.args.m.now c.args.at _ x.«open».result x.«open».ensures _ x.in_ok-x.was)
      | judge_value-else-e-gt0 x ↦ rw (x.notes-is, x.x-is) (under_bare (ready_by p) q.is _ c.describe-e.ensures c.args.m.now c.args.at c.args.from x.if-e-gt0.false q.headed _)
    ]) in
    let F = filling_of I c.extent.ensures c.in-Ok.is in
    let n = c.if-e.false in
    let k = items_known F n in (
      omega arith,
      record {
        known = k.0;
        holds = k.1;
        some = items_some F n;
        short = contents_short F;
        levels = omega (arith, q.levels);
      },
    )

pub judge_value-overflow_add-result : goal.judge_value-overflow_add-result
judge_value-overflow_add-result t c =
    let q = c.requires in
    let p = c.args.table.now in
    let I = item_of p q c.describe-e.ensures (λ i. omega (arith, c.type_inv.m i)) c.if-e-gt0.notes c.if-e-gt0.x (elim c.if-e-gt0.branch [
      | judge_value-then-e-gt0+in_ok-x x ↦ rw (x.notes-is, x.x-is) (under_tags (ready_by p) q.is c.args.m.now c.args.at _ x.«open».result x.«open».ensures _ x.in_ok-x.was)
      | judge_value-else-e-gt0 x ↦ rw (x.notes-is, x.x-is) (under_bare (ready_by p) q.is _ c.describe-e.ensures c.args.m.now c.args.at c.args.from x.if-e-gt0.false q.headed _)
    ]) in
    let F = filling_of I c.extent.ensures c.in-Ok.is in
    let r = c.judge_members in
    let v = c.in-Err-judge_members.u in
    omega (arith, items_low F c.if-e.false r.result r.ensures v.cause v.left c.in-Err-judge_members.is)

pub judge_value-returns-in-Err-judge_members : goal.judge_value-returns-in-Err-judge_members
judge_value-returns-in-Err-judge_members t c =
    let q = c.requires in
    let p = c.args.table.now in
    let I = item_of p q c.describe-e.ensures (λ i. omega (arith, c.type_inv.m i)) c.if-e-gt0.notes c.if-e-gt0.x (elim c.if-e-gt0.branch [
      | judge_value-then-e-gt0+in_ok-x x ↦ rw (x.notes-is, x.x-is) (under_tags (ready_by p) q.is c.args.m.now c.args.at _ x.«open».result x.«open».ensures _ x.in_ok-x.was)
      | judge_value-else-e-gt0 x ↦ rw (x.notes-is, x.x-is) (under_bare (ready_by p) q.is _ c.describe-e.ensures c.args.m.now c.args.at c.args.from x.if-e-gt0.false q.headed _)
    ]) in
    let F = filling_of I c.extent.ensures c.in-Ok.is in
    let r = c.judge_members in
    let v = c.in-Err-judge_members.u in
    value_unheld F c.if-e.false r.result r.ensures v.cause v.left c.in-Err-judge_members.is

pub judge_value-overflow_add-over : goal.judge_value-overflow_add-over
judge_value-overflow_add-over t c =
    let q = c.requires in
    let p = c.args.table.now in
    let I = item_of p q c.describe-e.ensures (λ i. omega (arith, c.type_inv.m i)) c.if-e-gt0.notes c.if-e-gt0.x (elim c.if-e-gt0.branch [
      | judge_value-then-e-gt0+in_ok-x x ↦ rw (x.notes-is, x.x-is) (under_tags (ready_by p) q.is c.args.m.now c.args.at _ x.«open».result x.«open».ensures _ x.in_ok-x.was)
      | judge_value-else-e-gt0 x ↦ rw (x.notes-is, x.x-is) (under_bare (ready_by p) q.is _ c.describe-e.ensures c.args.m.now c.args.at c.args.from x.if-e-gt0.false q.headed _)
    ]) in
    let F = filling_of I c.extent.ensures c.in-Ok.is in
    let Z = ended_of I (c.in-Ok.y.start + c.if-e.inside.end) c.if-e.inside.size (elim c.if-e.branch [
      | judge_value-then-e+in_ok-inside x ↦ rw x.inside-is (over_leaf F x.if-e.true x.judge_contents.result x.judge_contents.ensures _ _ x.in_ok-inside.was)
      | judge_value-else-e+in-Ok-judge_members x ↦ rw x.inside-is (over_items F x.if-e.false x.judge_members.result x.judge_members.ensures _ _ x.in-Ok-judge_members.is)
    ]) in
    omega (arith, Z.over.within, I.under.high, q.short)

pub judge_value-close-requires : goal.judge_value-close-requires
judge_value-close-requires t c =
    let q = c.requires in
    let p = c.args.table.now in
    let I = item_of p q c.describe-e.ensures (λ i. omega (arith, c.type_inv.m i)) c.if-e-gt0.notes c.if-e-gt0.x (elim c.if-e-gt0.branch [
      | judge_value-then-e-gt0+in_ok-x x ↦ rw (x.notes-is, x.x-is) (under_tags (ready_by p) q.is c.args.m.now c.args.at _ x.«open».result x.«open».ensures _ x.in_ok-x.was)
      | judge_value-else-e-gt0 x ↦ rw (x.notes-is, x.x-is) (under_bare (ready_by p) q.is _ c.describe-e.ensures c.args.m.now c.args.at c.args.from x.if-e-gt0.false q.headed _)
    ]) in
    let F = filling_of I c.extent.ensures c.in-Ok.is in
    let Z = ended_of I (c.in-Ok.y.start + c.if-e.inside.end) c.if-e.inside.size (elim c.if-e.branch [
      | judge_value-then-e+in_ok-inside x ↦ rw x.inside-is (over_leaf F x.if-e.true x.judge_contents.result x.judge_contents.ensures _ _ x.in_ok-inside.was)
      | judge_value-else-e+in-Ok-judge_members x ↦ rw x.inside-is (over_items F x.if-e.false x.judge_members.result x.judge_members.ensures _ _ x.in-Ok-judge_members.is)
    ]) in
    item_closes Z

pub judge_value-returns-then-e-gt0-2 : goal.judge_value-returns-then-e-gt0-2
judge_value-returns-then-e-gt0-2 t c =
    let q = c.requires in
    let p = c.args.table.now in
    let I = item_of p q c.describe-e.ensures (λ i. omega (arith, c.type_inv.m i)) c.if-e-gt0.notes c.if-e-gt0.x (elim c.if-e-gt0.branch [
      | judge_value-then-e-gt0+in_ok-x x ↦ rw (x.notes-is, x.x-is) (under_tags (ready_by p) q.is c.args.m.now c.args.at _ x.«open».result x.«open».ensures _ x.in_ok-x.was)
      | judge_value-else-e-gt0 x ↦ rw (x.notes-is, x.x-is) (under_bare (ready_by p) q.is _ c.describe-e.ensures c.args.m.now c.args.at c.args.from x.if-e-gt0.false q.headed _)
    ]) in
    let F = filling_of I c.extent.ensures c.in-Ok.is in
    let Z = ended_of I (c.in-Ok.y.start + c.if-e.inside.end) c.if-e.inside.size (elim c.if-e.branch [
      | judge_value-then-e+in_ok-inside x ↦ rw x.inside-is (over_leaf F x.if-e.true x.judge_contents.result x.judge_contents.ensures _ _ x.in_ok-inside.was)
      | judge_value-else-e+in-Ok-judge_members x ↦ rw x.inside-is (over_items F x.if-e.false x.judge_members.result x.judge_members.ensures _ _ x.in-Ok-judge_members.is)
    ]) in
    value_closed Z _ c.close.ensures

pub judge_value-returns : goal.judge_value-returns
judge_value-returns t c =
    let q = c.requires in
    let p = c.args.table.now in
    let I = item_of p q c.describe-e.ensures (λ i. omega (arith, c.type_inv.m i)) c.if-e-gt0.notes c.if-e-gt0.x (elim c.if-e-gt0.branch [
      | judge_value-then-e-gt0+in_ok-x x ↦ rw (x.notes-is, x.x-is) (under_tags (ready_by p) q.is c.args.m.now c.args.at _ x.«open».result x.«open».ensures _ x.in_ok-x.was)
      | judge_value-else-e-gt0 x ↦ rw (x.notes-is, x.x-is) (under_bare (ready_by p) q.is _ c.describe-e.ensures c.args.m.now c.args.at c.args.from x.if-e-gt0.false q.headed _)
    ]) in
    let F = filling_of I c.extent.ensures c.in-Ok.is in
    let Z = ended_of I (c.in-Ok.y.start + c.if-e.inside.end) c.if-e.inside.size (elim c.if-e.branch [
      | judge_value-then-e+in_ok-inside x ↦ rw x.inside-is (over_leaf F x.if-e.true x.judge_contents.result x.judge_contents.ensures _ _ x.in_ok-inside.was)
      | judge_value-else-e+in-Ok-judge_members x ↦ rw x.inside-is (over_items F x.if-e.false x.judge_members.result x.judge_members.ensures _ _ x.in-Ok-judge_members.is)
    ]) in
    value_over Z c.if-e-gt0-2.false
