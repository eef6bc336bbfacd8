-- `reader::search::unawaited` meets its contract.
-- Assumes nothing.
use Rattle.std.proofs.Common.{sym}
use Rattle.checker.proofs.Ready.{ready_by}
use Rattle.reader.proofs.Lent.{seeks}
use Rattle.reader.proofs.Searching.{has_members_lem, unfit_trailing, unfit_left, unfit_other}
use Rattle.reader.proofs.search.unawaited.Goals as goal

pub lacks-requires : goal.lacks-requires
lacks-requires c =
    let x = c.args.table.now in
    let Z = seeks (ready_by x) c.requires.0 in
    (c.requires.0, has_members_lem Z _ c.describe.ensures _ c.has_members.ensures c.args.i c.if-has_members.true)

pub returns-then-not-lacks : goal.returns-then-not-lacks
returns-then-not-lacks c =
    let x = c.args.table.now in
    let Z = seeks (ready_by x) c.requires.0 in
    sym (unfit_trailing Z _ c.describe.ensures _ c.has_members.ensures _ _ c.lacks.ensures c.args.cause c.if-has_members.true c.if-not-lacks.true)

pub returns-else-not-lacks : goal.returns-else-not-lacks
returns-else-not-lacks c =
    let x = c.args.table.now in
    let Z = seeks (ready_by x) c.requires.0 in
    sym (unfit_left Z _ c.describe.ensures _ c.has_members.ensures _ _ c.lacks.ensures c.args.cause c.if-has_members.true c.if-not-lacks.false)

pub returns-else-has_members : goal.returns-else-has_members
returns-else-has_members c =
    let x = c.args.table.now in
    let Z = seeks (ready_by x) c.requires.0 in
    sym (unfit_other Z _ c.describe.ensures _ c.has_members.ensures _ c.args.cause c.if-has_members.false c.requires.1)
