-- `reader::judge::next` meets its contract.
-- Assumes nothing.
use Rattle.std.proofs.Common.{◌≡◌, ◌∙◌, refl, inl, inr, Err, rules}
use Rattle.kinds.specs.declared.Kind.TheVariants.{Sequence}
use Rattle.kinds.proofs.Same.{is_kind, not_kind}
use Rattle.checker.proofs.Ready.{ready_by}
use Rattle.reader.specs.Items.{manner, since}
use Rattle.reader.specs.Sought.{held}
use Rattle.reader.proofs.Lent.{seeks}
use Rattle.reader.proofs.Searching.{parted, since_is, has_members_lem}
use Rattle.reader.proofs.Ending.{stands_one, stands_more, stands_broken, stands_list, stands_lacking, stands_over}
use Rattle.reader.proofs.judge.next.Goals as goal
use Rattle.reader.proofs.judge.next.Goals.{Joined-eq, then-eq, else-eq}

pub returns-then-holds_one : goal.returns-then-holds_one
returns-then-holds_one c =
    let s = seeks (ready_by c.args.table.now) c.requires.0 in
    stands_one s c.requires.1 _ c.describe-e.ensures _ c.holds_one.ensures _ _ c.if-holds_one.true

pub returns-in_err-end : goal.returns-in_err-end
returns-in_err-end c =
    let s = seeks (ready_by c.args.table.now) c.requires.0 in
    let e : c.from_residual.result ≡ Err c.in_err-end.field-0.0 = search rules in
    e ∙ stands_broken s c.requires.1 _ c.describe-e.ensures _ c.holds_one.ensures _ _ c.if-holds_one.false _ c.read.ensures _ c.in_err-end.was

pub returns-in_default : goal.returns-in_default
returns-in_default c =
    let s = seeks (ready_by c.args.table.now) c.requires.0 in
    stands_more s c.requires.1 _ c.describe-e.ensures _ c.holds_one.ensures _ _ c.if-holds_one.false _ c.read.ensures
    (rw c.in_default.is at c.in_ok-end.was)

pub lacks-requires : goal.lacks-requires
lacks-requires c =
    let s = seeks (ready_by c.args.table.now) c.requires.0 in
    (c.requires.0, has_members_lem s _ c.describe-e.ensures _ c.has_members.ensures c.if-eq.i c.if-has_members.true)

-- from which member on it is looked
from_part : (c : Joined-eq) → c.if-eq.i ≡ since (manner (held c.args.table.now.octets.now c.args.w)) c.args.j
from_part c =
    since_is (parted (seeks (ready_by c.args.table.now) c.requires.0) c.describe-e.ensures refl) _ _ (elim c.if-eq.branch [
      | then-eq x ↦ inl (is_kind c.describe-e.result.kind Sequence c.eq.ensures x.if-eq.true, x.i-is)
      | else-eq x ↦ inr (not_kind c.describe-e.result.kind Sequence c.eq.ensures x.if-eq.false, x.i-is)
    ])

pub returns-then-lacks : goal.returns-then-lacks
returns-then-lacks c =
    let s = seeks (ready_by c.args.table.now) c.requires.0 in
    rw (← from_part (goal.at.returns-then-lacks c).Joined-eq)
    (stands_lacking s c.requires.1 _ c.describe-e.ensures _ c.holds_one.ensures _ _ c.if-holds_one.false _ c.read.ensures _
    (rw c.in-Some.is at c.in_ok-end.was) _ c.has_members.ensures _ c.lacks.ensures c.if-lacks.true)

pub returns-else-lacks : goal.returns-else-lacks
returns-else-lacks c =
    let s = seeks (ready_by c.args.table.now) c.requires.0 in
    rw (← from_part (goal.at.returns-else-lacks c).Joined-eq)
    (stands_over s c.requires.1 _ c.describe-e.ensures _ c.holds_one.ensures _ _ c.if-holds_one.false _ c.read.ensures _
    (rw c.in-Some.is at c.in_ok-end.was) _ c.has_members.ensures _ c.lacks.ensures c.if-lacks.false)

pub returns-else-has_members : goal.returns-else-has_members
returns-else-has_members c =
    let s = seeks (ready_by c.args.table.now) c.requires.0 in
    stands_list s c.requires.1 _ c.describe-e.ensures _ c.holds_one.ensures _ _ c.if-holds_one.false _ c.read.ensures _
    (rw c.in-Some.is at c.in_ok-end.was) _ c.has_members.ensures c.if-has_members.false
