-- `reader::search::in_turn` meets its contract.
-- Assumes nothing.
use Rattle.std.proofs.Common.{◌∙◌, refl, arith}
use Rattle.checker.proofs.Ready.{ready_by}
use Rattle.records.proofs.Promises.{first_described}
use Rattle.reader.proofs.Lent.{seeks}
use Rattle.reader.proofs.Searching.{parted, few, near, within, type_low}
use Rattle.reader.proofs.ItemsFound.{turn_fits}
use Rattle.reader.proofs.search.in_turn.Goals as goal

pub offset_bounds-came-j : goal.offset_bounds-came-j
offset_bounds-came-j c =
    let x = c.args.table.now in
    omega (arith, few (parted (seeks (ready_by x) c.requires.0) refl c.requires.1))

pub bounds-came-j : goal.bounds-came-j
bounds-came-j c =
    let x = c.args.table.now in
    omega (arith, few (parted (seeks (ready_by x) c.requires.0) refl c.requires.1))

pub overflow_mul-record : goal.overflow_mul-record
overflow_mul-record c =
    let x = c.args.table.now in
    omega (arith, near (parted (seeks (ready_by x) c.requires.0) refl c.requires.1) _ c.if-j-s.true)

pub overflow_add-record : goal.overflow_add-record
overflow_add-record c =
    let x = c.args.table.now in
    omega (arith, near (parted (seeks (ready_by x) c.requires.0) refl c.requires.1) _ c.if-j-s.true)

pub bounds-table-s : goal.bounds-table-s
bounds-table-s c =
    let x = c.args.table.now in
    within (parted (seeks (ready_by x) c.requires.0) refl c.requires.1) _ c.if-j-s.true

pub bounds-table-record : goal.bounds-table-record
bounds-table-record c =
    let x = c.args.table.now in
    let R = ready_by x in
    let D = parted (seeks R c.requires.0) refl c.requires.1 in
    omega (arith, type_low D _ c.if-j-s.true _ refl, R.passes.few)

pub returns-then-first-m : goal.returns-then-first-m
returns-then-first-m c =
    let x = c.args.table.now in
    let D = parted (seeks (ready_by x) c.requires.0) refl c.requires.1 in
    turn_fits D c.args.m.now (λ k. omega (arith, c.type_inv.m k)) c.args.at c.requires.2 _ c.if-j-s.true c.if-came-j-eq0.true _ _ refl (c.first.ensures ∙ first_described _) c.if-first-m.true
