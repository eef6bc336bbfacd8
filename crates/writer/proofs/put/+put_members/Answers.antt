-- Putting what stands in a node: one law for each way through it.
-- Assumes nothing.
use Rattle.std.proofs.Common.{arith, refl, ◌≤◌, ◌+◌, length}
use Rattle.records.specs.Descriptors.{described}
use Rattle.writer.specs.Putting.{Puts}
use Rattle.writer.proofs.Standing.{start_past}
use Rattle.writer.proofs.Members.{none_below}
use Rattle.writer.proofs.Placing.{Still, put_begin, put_end_lem, put_pass, member, put_known, put_near, put_own, put_simple}
use Rattle.writer.proofs.Placing.{Sized, sized_leaf, sized_built, put_capped, put_front, fronted, put_room, put_leaf, put_under, put_built}
use Rattle.writer.proofs.put.+put_members.Goals as goal
use Rattle.writer.proofs.put.+put_members.Goals.{then-r, else-r, then-r-2, else-r-2}

pub loop-i-init : goal.loop-i-init
loop-i-init t c =
    let a = c.args in
    let q = rw c.describe-e.ensures at c.start-at.ensures in
    record {
      onward = omega (arith, start_past (described a.w) a.v.now a.p);
      within = omega (arith, c.requires.stands.starts);
      still = λ Y. put_begin Y _ q;
    }

pub loop-i-preserved-in_default : goal.loop-i-preserved-in_default
loop-i-preserved-in_default t c =
    record {
      onward = c.loop-i.invariant.onward;
      within = c.loop-i.invariant.within;
      still = λ Y. put_pass Y _ _ _ _ (c.loop-i.invariant.still Y) (rw c.describe-e.ensures at (rw c.count-n.ensures.0 at c.loop-i-test.true))
          (none_below 256 _ (rw c.describe-e.ensures at c.in_default.ensures));
    }

pub size-size-requires : goal.size-size-requires
size-size-requires t c =
    let a = c.args in
    let l = c.loop-i in
    let m = member a.table.now c.requires l.i l.at l.next l.buf (l.invariant.still c.requires) l.invariant.within l.auto.buf c.describe-e.ensures c.count-n.ensures.0
    c.loop-i-test.true c.in-Some.t c.in-Some.ensures c.describe-r.ensures in
    ((put_near m).1, put_simple m c.if-r.true, put_own m)

pub bounds-notes-at : goal.bounds-notes-at
bounds-notes-at t c =
    let a = c.args in
    let l = c.loop-i in
    let m = member a.table.now c.requires l.i l.at l.next l.buf (l.invariant.still c.requires) l.invariant.within l.auto.buf c.describe-e.ensures c.count-n.ensures.0
    c.loop-i-test.true c.in-Some.t c.in-Some.ensures c.describe-r.ensures in
    omega (arith, (put_near m).0, c.requires.little)

pub put-next-requires : goal.put-next-requires
put-next-requires t c =
    let a = c.args in
    let l = c.loop-i in
    let m = member a.table.now c.requires l.i l.at l.next l.buf (l.invariant.still c.requires) l.invariant.within l.auto.buf c.describe-e.ensures c.count-n.ensures.0
    c.loop-i-test.true c.in-Some.t c.in-Some.ensures c.describe-r.ensures in
    let z : Sized m c.if-r.size =
    elim c.if-r.branch [
      | then-r w ↦ sized_leaf m w.if-r.true _ _ w.size-size.ensures.0 w.size-is
      | else-r w ↦ sized_built m w.if-r.false _ w.size-is
    ] in
    (rw (← c.describe-r.ensures) (put_known m), put_capped m _ z, rw (← c.describe-r.ensures) (put_front m _ z))

pub put-at-requires : goal.put-at-requires
put-at-requires t c =
    let a = c.args in
    let l = c.loop-i in
    let m = member a.table.now c.requires l.i l.at l.next l.buf (l.invariant.still c.requires) l.invariant.within l.auto.buf c.describe-e.ensures c.count-n.ensures.0
    c.loop-i-test.true c.in-Some.t c.in-Some.ensures c.describe-r.ensures in
    let z : Sized m c.if-r.size =
    elim c.if-r.branch [
      | then-r w ↦ sized_leaf m w.if-r.true _ _ w.size-size.ensures.0 w.size-is
      | else-r w ↦ sized_built m w.if-r.false _ w.size-is
    ] in
    let q = fronted m c.if-r.size z c.describe-r.ensures c.put-next.result c.put-next.new.buf c.put-next.ensures.0 c.put-next.ensures.1 c.put-next.auto.buf in
    let r = put_room q c.if-r-2.true in
    ((put_near m).1, put_simple m c.if-r-2.true, put_own m, r.0, r.1)

pub overflow_add-next : goal.overflow_add-next
overflow_add-next t c =
    let a = c.args in
    let l = c.loop-i in
    let m = member a.table.now c.requires l.i l.at l.next l.buf (l.invariant.still c.requires) l.invariant.within l.auto.buf c.describe-e.ensures c.count-n.ensures.0
    c.loop-i-test.true c.in-Some.t c.in-Some.ensures c.describe-r.ensures in
    let z : Sized m c.if-r.size =
    elim c.if-r.branch [
      | then-r w ↦ sized_leaf m w.if-r.true _ _ w.size-size.ensures.0 w.size-is
      | else-r w ↦ sized_built m w.if-r.false _ w.size-is
    ] in
    let q = fronted m c.if-r.size z c.describe-r.ensures c.put-next.result c.put-next.new.buf c.put-next.ensures.0 c.put-next.ensures.1 c.put-next.auto.buf in
    omega (arith, (put_room q c.if-r-2.true).1, c.put-next.auto.buf, c.loop-i.auto.buf, c.well_formed)

pub put_members-y-requires : goal.put_members-y-requires
put_members-y-requires t c =
    let a = c.args in
    let l = c.loop-i in
    let m = member a.table.now c.requires l.i l.at l.next l.buf (l.invariant.still c.requires) l.invariant.within l.auto.buf c.describe-e.ensures c.count-n.ensures.0
    c.loop-i-test.true c.in-Some.t c.in-Some.ensures c.describe-r.ensures in
    let z : Sized m c.if-r.size =
    elim c.if-r.branch [
      | then-r w ↦ sized_leaf m w.if-r.true _ _ w.size-size.ensures.0 w.size-is
      | else-r w ↦ sized_built m w.if-r.false _ w.size-is
    ] in
    let q = fronted m c.if-r.size z c.describe-r.ensures c.put-next.result c.put-next.new.buf c.put-next.ensures.0 c.put-next.ensures.1 c.put-next.auto.buf in (
      omega (arith, (put_near m).0, c.loop-i.invariant.onward, c.decreases),
      rw (← c.describe-r.ensures) (put_under q c.if-r-2.false),
    )

pub loop-i-preserved : goal.loop-i-preserved
loop-i-preserved t c =
    let a = c.args in
    let after : (Y : Puts a.table.now.octets.now a.v.now a.notes.now (described a.w) a.p a.to a.buf.now)
    → (c.loop-i.at ≤ c.if-r-2.at) × (c.if-r-2.at ≤ length a.v.now) × Still Y (c.loop-i.i + 1) c.if-r-2.at c.if-r-2.next c.if-r-2.buf =
    λ Y.
    let l = c.loop-i in
    let m = member a.table.now Y l.i l.at l.next l.buf (l.invariant.still Y) l.invariant.within l.auto.buf c.describe-e.ensures c.count-n.ensures.0
    c.loop-i-test.true c.in-Some.t c.in-Some.ensures c.describe-r.ensures in
    let z : Sized m c.if-r.size =
    elim c.if-r.branch [
      | then-r w ↦ sized_leaf m w.if-r.true _ _ w.size-size.ensures.0 w.size-is
      | else-r w ↦ sized_built m w.if-r.false _ w.size-is
    ] in
    let q = fronted m c.if-r.size z c.describe-r.ensures c.put-next.result c.put-next.new.buf c.put-next.ensures.0 c.put-next.ensures.1 c.put-next.auto.buf in
    elim c.if-r-2.branch [
      | then-r-2 w ↦ rw (w.at-is, w.next-is, w.buf-is) (put_leaf q w.if-r-2.true _ _ w.put-at.ensures.0 w.put-at.ensures.1)
      | else-r-2 w ↦
          let e = rw (← c.describe-r.ensures) at w.put_members-y.ensures in
          rw (w.at-is, w.next-is, w.buf-is) (put_built q w.if-r-2.false _ _
          (e (put_under q w.if-r-2.false)))
    ] in
    record { onward = omega (arith, c.loop-i.invariant.onward, (after c.requires).0); within = (after c.requires).1; still = λ Y. (after Y).2 }

pub returns : goal.returns
returns t c =
    λ Y. put_end_lem Y _ _ _ _ (c.loop-i.invariant.still Y) c.loop-i.invariant.within
    (omega (arith, rw c.describe-e.ensures at c.count-n.ensures.0, c.loop-i-test.false)) _ refl refl
