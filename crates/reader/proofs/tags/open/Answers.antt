-- `reader::tags::open` meets its contract.
-- Assumes nothing.
use Rattle.std.proofs.Common.{length-set, arith}
use Rattle.checker.proofs.Ready.{ready_by}
use Rattle.reader.proofs.Tagging.{its_fit}
use Rattle.reader.proofs.Opening.{its_count, its_headed, its_few, open_none, open_unread, extent, open_refused, open_next}
use Rattle.reader.proofs.Opening.{open_turn, open_done, tag_left}
use Rattle.reader.proofs.tags.open.Goals as goal

pub loop-j-init : goal.loop-j-init
loop-j-init c =
    let q = c.requires in
    let r = ready_by c.args.table.now in
    record {
      four = c.told-notes;
      «open» = open_none _ _ (its_fit r q.0) _ (λ i. omega (arith, c.type_inv.m i)) _ _ _ (omega (arith, its_count r q.0, q.1)) (its_headed r q.0 q.2);
    }

pub returns-in-Err : goal.returns-in-Err
returns-in-Err c =
    let q = c.requires in
    let r = ready_by c.args.table.now in
    open_unread _ _ (its_fit r q.0) _ (λ i. omega (arith, c.type_inv.m i)) _ _ _ _ _ _ c.loop-j.invariant.«open»
    (tag_left r q.0 c.describe-e.ensures c.loop-j-test.true) _ c.read.ensures.0 _ c.in-Err.is c.loop-j.notes

pub bounds-notes-j : goal.bounds-notes-j
bounds-notes-j c =
    let q = c.requires in
    let r = ready_by c.args.table.now in
    omega (arith, tag_left r q.0 c.describe-e.ensures c.loop-j-test.true, its_few r q.0)

pub slice_bounds-inside-count : goal.slice_bounds-inside-count
slice_bounds-inside-count c =
    let q = c.requires in
    let r = ready_by c.args.table.now in
    (extent _ _ (its_fit r q.0) _ (λ i. omega (arith, c.type_inv.m i)) _ _ _ _ _ _ c.loop-j.invariant.«open»
    (tag_left r q.0 c.describe-e.ensures c.loop-j-test.true) _ c.read.ensures.0 _ c.in-Ok.is).1

pub slice_bounds-inside-start : goal.slice_bounds-inside-start
slice_bounds-inside-start c =
    let q = c.requires in
    let r = ready_by c.args.table.now in
    let (_, o, n, _) = extent _ _ (its_fit r q.0) _ (λ i. omega (arith, c.type_inv.m i)) _ _ _ _ _ _ c.loop-j.invariant.«open»
    (tag_left r q.0 c.describe-e.ensures c.loop-j-test.true) _ c.read.ensures.0 _ c.in-Ok.is in
    omega (arith, c.loop-j.invariant.«open».high)

pub slice_bounds-inside-end : goal.slice_bounds-inside-end
slice_bounds-inside-end c =
    let q = c.requires in
    let r = ready_by c.args.table.now in
    let (_, _, n, _) = extent _ _ (its_fit r q.0) _ (λ i. omega (arith, c.type_inv.m i)) _ _ _ _ _ _ c.loop-j.invariant.«open»
    (tag_left r q.0 c.describe-e.ensures c.loop-j-test.true) _ c.read.ensures.0 _ c.in-Ok.is in
    omega (arith, c.loop-j.invariant.«open».high)

pub overflow_add-from : goal.overflow_add-from
overflow_add-from c =
    let q = c.requires in
    let r = ready_by c.args.table.now in
    let l = c.loop-j.invariant in
    let (_, o, n, _) = extent _ _ (its_fit r q.0) _ (λ i. omega (arith, c.type_inv.m i)) _ _ _ _ _ _ l.«open»
    (tag_left r q.0 c.describe-e.ensures c.loop-j-test.true) _ c.read.ensures.0 _ c.in-Ok.is in
    let z = open_next _ _ (its_fit r q.0) _ (λ i. omega (arith, c.type_inv.m i)) _ _ _ _ _ _ l.«open»
    (tag_left r q.0 c.describe-e.ensures c.loop-j-test.true) _ c.read.ensures.0 _ c.in-Ok.is _ c.enter.ensures _ c.in-Ok-enter.is in
    omega (arith, l.«open».high, q.3)

pub overflow_sub-result-in-Err-enter : goal.overflow_sub-result-in-Err-enter
overflow_sub-result-in-Err-enter c =
    let q = c.requires in
    let r = ready_by c.args.table.now in
    let (_, o, n, _) = extent _ _ (its_fit r q.0) _ (λ i. omega (arith, c.type_inv.m i)) _ _ _ _ _ _ c.loop-j.invariant.«open»
    (tag_left r q.0 c.describe-e.ensures c.loop-j-test.true) _ c.read.ensures.0 _ c.in-Ok.is in
    omega (arith, c.loop-j.invariant.«open».high)

pub returns-in-Err-enter : goal.returns-in-Err-enter
returns-in-Err-enter c =
    let q = c.requires in
    let r = ready_by c.args.table.now in
    open_refused _ _ (its_fit r q.0) _ (λ i. omega (arith, c.type_inv.m i)) _ _ _ _ _ _ c.loop-j.invariant.«open»
    (tag_left r q.0 c.describe-e.ensures c.loop-j-test.true) _ c.read.ensures.0 _ c.in-Ok.is _ c.enter.ensures _ c.in-Err-enter.is c.loop-j.notes

pub loop-j-preserved : goal.loop-j-preserved
loop-j-preserved c =
    let q = c.requires in
    let r = ready_by c.args.table.now in
    let l = c.loop-j.invariant in
    let k = tag_left r q.0 c.describe-e.ensures c.loop-j-test.true in
    record {
      four = simp length-set l.four;
      «open» = open_turn _ _ (its_fit r q.0) _ (λ i. omega (arith, c.type_inv.m i)) _ _ _ _ _ _ l.«open» k _ c.read.ensures.0 _ c.in-Ok.is
          _ c.enter.ensures _ c.in-Ok-enter.is _ c.note.ensures (omega (arith, l.four, k, its_few r q.0));
    }

pub returns : goal.returns
returns c =
    let q = c.requires in
    let r = ready_by c.args.table.now in
    let r = ready_by c.args.table.now in
    open_done _ _ (its_fit r q.0) _ (λ i. omega (arith, c.type_inv.m i)) _ _ _ _ _ _ c.loop-j.invariant.«open» _
    (its_count r q.0) (omega (arith, its_count r q.0, q.1)) (rw c.describe-e.ensures at c.loop-j-test.false)
