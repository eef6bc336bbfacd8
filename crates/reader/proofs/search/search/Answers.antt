-- `reader::search::search` meets its contract.
-- Assumes nothing.
use Rattle.std.proofs.Common.{◌≡◌, ap, inl, inr, Err, arith}
use Rattle.kinds.specs.declared.Kind.TheVariants.{Sequence}
use Rattle.kinds.proofs.Same.{is_kind, not_kind}
use Rattle.checker.proofs.Ready.{ready_by}
use Rattle.reader.specs.Items.{manner, since}
use Rattle.reader.specs.Sought.{held}
use Rattle.reader.proofs.Lent.{seeks}
use Rattle.reader.proofs.Searching.{Parted, parted, near, since_is, since_again, place_found}
use Rattle.reader.proofs.Finding.{sought_unread, code_small, sought_direct, sought_indirect}
use Rattle.reader.proofs.search.search.Goals as goal
use Rattle.reader.proofs.search.search.Goals.{Joined-eq, then-eq, else-eq}

-- the parts of the entry
parted_by : (c : Joined-eq) → Parted c.args.table.now.octets.now c.args.table.now.index.now c.args.w c.args.came.now c.describe-e.result c.parts-s.result
parted_by c = parted (seeks (ready_by c.args.table.now) c.requires) c.describe-e.ensures c.parts-s.ensures

-- and from which of them on the search goes
from_part : (c : Joined-eq) → c.if-eq.i ≡ since (manner (held c.args.table.now.octets.now c.args.w)) c.args.j
from_part c =
    since_is (parted_by c) _ _ (elim c.if-eq.branch [
      | then-eq x ↦ inl (is_kind c.describe-e.result.kind Sequence c.eq.ensures x.if-eq.true, x.i-is)
      | else-eq x ↦ inr (not_kind c.describe-e.result.kind Sequence c.eq.ensures x.if-eq.false, x.i-is)
    ])

pub unawaited-requires : goal.unawaited-requires
unawaited-requires c =
    let z = (goal.at.unawaited-requires c).Joined-eq in
    (c.requires, since_again (parted_by z) _ _ (from_part z))

pub returns-in-Err : goal.returns-in-Err
returns-in-Err c =
    let z = (goal.at.returns-in-Err c).Joined-eq in
    rw (← from_part z)
    (sought_unread (parted_by z) _ (λ k. omega (arith, c.type_inv.m k)) _ c.read.ensures _ c.args.way.now _ c.in-Err.is (Err c.unawaited.result) (ap Err c.unawaited.ensures))

pub indirect-requires : goal.indirect-requires
indirect-requires c =
    let z = (goal.at.indirect-requires c).Joined-eq in
    let D = parted_by z in (
      c.requires,
      since_again D c.if-eq.i c.args.j (from_part z),
      code_small D c.args.m.now (λ k. omega (arith, c.type_inv.m k)) _ c.read.ensures c.if-eq.i c.args.way.now _ _ c.in-Ok.is,
    )

pub returns-in_default : goal.returns-in_default
returns-in_default c =
    let z = (goal.at.returns-in_default c).Joined-eq in
    rw (← from_part z)
    (sought_indirect (parted_by z) c.args.m.now (λ k. omega (arith, c.type_inv.m k)) c.read.result c.read.ensures c.if-eq.i _ c.in-Ok.x.code
    c.in-Ok.x.end c.in-Ok.is c.indirect.result c.indirect.ensures)

pub returns : goal.returns
returns c =
    let z = (goal.at.returns c).Joined-eq in
    let D = parted_by z in
    let p = place_found D _ _ _ c.direct.ensures c.in-Some.is in
    rw (← from_part z)
    (sought_direct D _ (λ k. omega (arith, c.type_inv.m k)) _ c.read.ensures _ c.args.way.now _ _ c.in-Ok.is _ p.0 p.1 _
    (c.part-record.ensures.0 (omega (arith, near D _ p.1))))
