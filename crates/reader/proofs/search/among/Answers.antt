-- `reader::search::among` meets its contract.
-- Assumes nothing.
use Rattle.std.proofs.Common.{◌∙◌, length-set, arith}
use Rattle.checker.proofs.Ready.{ready_by}
use Rattle.records.proofs.Promises.{first_described}
use Rattle.reader.proofs.Among.{code_most, amid_first, next, among_found, among_down, among_next, among_none, among_back}
use Rattle.reader.proofs.Among.{turn_at, fewer_under, fewer_beside, fewer_above}
use Rattle.reader.proofs.search.among.Goals as goal

pub loop-j-init : goal.loop-j-init
loop-j-init c =
    let x = c.args.table.now in
    record { wide = c.told-way; amid = amid_first (ready_by x) _ _ _ c.requires.2 c.requires.0 c.requires.1 }

pub bounds-way-depth : goal.bounds-way-depth
bounds-way-depth c =
    let x = c.args.table.now in
    let X = turn_at (ready_by x) c.requires.2 c.loop-j.invariant.wide c.loop-j.invariant.amid c.describe.ensures c.alternatives-s.ensures in
    (next X c.if-j-s.true c.octet-a.ensures.0).room

pub bounds-table-a : goal.bounds-table-a
bounds-table-a c =
    let x = c.args.table.now in
    let R = ready_by x in
    let X = turn_at R c.requires.2 c.loop-j.invariant.wide c.loop-j.invariant.amid c.describe.ensures c.alternatives-s.ensures in
    omega (arith, (next X c.if-j-s.true c.octet-a.ensures.0).small, R.passes.few)

pub begins-requires : goal.begins-requires
begins-requires c =
    let x = c.args.table.now in
    let R = ready_by x in
    let X = turn_at R c.requires.2 c.loop-j.invariant.wide c.loop-j.invariant.amid c.describe.ensures c.alternatives-s.ensures in
    code_most R _ (next X c.if-j-s.true c.octet-a.ensures.0).small

pub returns-then-begins : goal.returns-then-begins
returns-then-begins c =
    let x = c.args.table.now in
    let X = turn_at (ready_by x) c.requires.2 c.loop-j.invariant.wide c.loop-j.invariant.amid c.describe.ensures c.alternatives-s.ensures in
    among_found X c.if-j-s.true c.octet-a.ensures.0 c.begins.ensures c.if-begins.true

pub bounds-table-a-then-j-s : goal.bounds-table-a-then-j-s
bounds-table-a-then-j-s c =
    let x = c.args.table.now in
    let R = ready_by x in
    let X = turn_at R c.requires.2 c.loop-j.invariant.wide c.loop-j.invariant.amid c.describe.ensures c.alternatives-s.ensures in
    omega (arith, (next X c.if-j-s.true c.octet-a.ensures.0).small, R.passes.few)

pub loop-j-smaller-then-first-eq-UNTAGGED : goal.loop-j-smaller-then-first-eq-UNTAGGED
loop-j-smaller-then-first-eq-UNTAGGED c =
    let x = c.args.table.now in
    let X = turn_at (ready_by x) c.requires.2 c.loop-j.invariant.wide c.loop-j.invariant.amid c.describe.ensures c.alternatives-s.ensures in
    fewer_under X c.if-j-s.true c.octet-a.ensures.0

pub loop-j-preserved-then-first-eq-UNTAGGED : goal.loop-j-preserved-then-first-eq-UNTAGGED
loop-j-preserved-then-first-eq-UNTAGGED c =
    let x = c.args.table.now in
    let X = turn_at (ready_by x) c.requires.2 c.loop-j.invariant.wide c.loop-j.invariant.amid c.describe.ensures c.alternatives-s.ensures in
    record {
      wide = simp length-set c.loop-j.invariant.wide;
      amid = among_down X c.if-j-s.true c.octet-a.ensures.0 c.begins.ensures _ (c.first.ensures ∙ first_described _) c.if-first-eq-UNTAGGED.true;
    }

pub loop-j-smaller-else-first-eq-UNTAGGED : goal.loop-j-smaller-else-first-eq-UNTAGGED
loop-j-smaller-else-first-eq-UNTAGGED c =
    let x = c.args.table.now in
    let X = turn_at (ready_by x) c.requires.2 c.loop-j.invariant.wide c.loop-j.invariant.amid c.describe.ensures c.alternatives-s.ensures in
    fewer_beside X c.if-j-s.true c.octet-a.ensures.0

pub loop-j-preserved-else-first-eq-UNTAGGED : goal.loop-j-preserved-else-first-eq-UNTAGGED
loop-j-preserved-else-first-eq-UNTAGGED c =
    let x = c.args.table.now in
    let X = turn_at (ready_by x) c.requires.2 c.loop-j.invariant.wide c.loop-j.invariant.amid c.describe.ensures c.alternatives-s.ensures in
    record {
      wide = simp length-set c.loop-j.invariant.wide;
      amid = among_next X c.if-j-s.true c.octet-a.ensures.0 c.begins.ensures c.if-begins.false _ (c.first.ensures ∙ first_described _) c.if-first-eq-UNTAGGED.false;
    }

pub returns-then-depth-eq0 : goal.returns-then-depth-eq0
returns-then-depth-eq0 c =
    let x = c.args.table.now in
    let X = turn_at (ready_by x) c.requires.2 c.loop-j.invariant.wide c.loop-j.invariant.amid c.describe.ensures c.alternatives-s.ensures in
    among_none X c.if-j-s.false c.if-depth-eq0.true

pub loop-j-smaller : goal.loop-j-smaller
loop-j-smaller c =
    let x = c.args.table.now in
    let X = turn_at (ready_by x) c.requires.2 c.loop-j.invariant.wide c.loop-j.invariant.amid c.describe.ensures c.alternatives-s.ensures in
    fewer_above X c.if-j-s.false c.if-depth-eq0.false

pub loop-j-preserved : goal.loop-j-preserved
loop-j-preserved c =
    let x = c.args.table.now in
    let X = turn_at (ready_by x) c.requires.2 c.loop-j.invariant.wide c.loop-j.invariant.amid c.describe.ensures c.alternatives-s.ensures in
    record { wide = c.loop-j.invariant.wide; amid = among_back X c.if-j-s.false c.if-depth-eq0.false }
