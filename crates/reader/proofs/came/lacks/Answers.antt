-- `reader::came::lacks` meets its contract.
-- Assumes nothing.
use Rattle.std.proofs.Common.{sym, ◌∙◌, arith}
use Rattle.checker.proofs.Ready.{ready_by}
use Rattle.reader.proofs.Spans.{span_few, span_near, lacks_any, lacks_come, lacks_must, lacks_skip, lacks_end}
use Rattle.reader.proofs.came.lacks.Goals as goal
use Rattle.reader.proofs.came.lacks.Goals.{then-came-k-eq0+else-any+else-not-optional, else-came-k-eq0}

pub overflow_mul-p : goal.overflow_mul-p
overflow_mul-p c =
    let x = c.args.table.now in
    omega (arith, span_near (ready_by x) _ c.requires.0.known _ (rw c.describe.ensures at c.parts-s.ensures) _ c.loop-k-test.true)

pub overflow_add-p : goal.overflow_add-p
overflow_add-p c =
    let x = c.args.table.now in
    omega (arith, span_near (ready_by x) _ c.requires.0.known _ (rw c.describe.ensures at c.parts-s.ensures) _ c.loop-k-test.true)

pub offset_bounds-came-k : goal.offset_bounds-came-k
offset_bounds-came-k c =
    let x = c.args.table.now in
    omega (arith, span_few (ready_by x) _ c.requires.0.known _ (rw c.describe.ensures at c.parts-s.ensures))

pub bounds-came-k : goal.bounds-came-k
bounds-came-k c =
    let x = c.args.table.now in
    omega (arith, span_few (ready_by x) _ c.requires.0.known _ (rw c.describe.ensures at c.parts-s.ensures))

pub returns-then-any : goal.returns-then-any
returns-then-any c =
    let x = c.args.table.now in
    sym
    (c.loop-k.invariant
    ∙ lacks_any (ready_by x) _ c.requires.0.known _ (rw c.describe.ensures at c.parts-s.ensures) c.requires.1 c.args.came.now _ c.args.any
    c.loop-k-test.true c.if-came-k-eq0.true c.if-any.true)

pub returns-then-not-optional : goal.returns-then-not-optional
returns-then-not-optional c =
    let x = c.args.table.now in
    sym
    (c.loop-k.invariant
    ∙ lacks_must (ready_by x) _ c.requires.0.known _ (rw c.describe.ensures at c.parts-s.ensures) c.requires.1 c.args.came.now _ c.args.any
    c.loop-k-test.true _ c.optional.ensures c.if-came-k-eq0.true c.if-not-optional.true)

pub loop-k-preserved : goal.loop-k-preserved
loop-k-preserved c =
    let x = c.args.table.now in
    let R = ready_by x in
    c.loop-k.invariant
    ∙ elim c.if-came-k-eq0.branch [
      | then-came-k-eq0+else-any+else-not-optional x ↦
          lacks_skip R _ c.requires.0.known _ (rw c.describe.ensures at c.parts-s.ensures) c.requires.1 c.args.came.now _ c.args.any
          c.loop-k-test.true x.optional.result x.optional.ensures x.if-came-k-eq0.true x.if-any.false x.if-not-optional.false
      | else-came-k-eq0 x ↦
          lacks_come R _ c.requires.0.known _ (rw c.describe.ensures at c.parts-s.ensures) c.requires.1 c.args.came.now _ c.args.any
          c.loop-k-test.true x.if-came-k-eq0.false
    ]

pub returns : goal.returns
returns c =
    let x = c.args.table.now in
    sym
    (c.loop-k.invariant
    ∙ lacks_end (ready_by x) _ c.requires.0.known _ (rw c.describe.ensures at c.parts-s.ensures) c.requires.1 c.args.came.now _ c.args.any
    c.loop-k-test.false)
