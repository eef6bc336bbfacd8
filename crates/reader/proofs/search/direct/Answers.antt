-- `reader::search::direct` meets its contract.
-- Assumes nothing.
use Rattle.std.proofs.Common.{◌∙◌, arith}
use Rattle.kinds.specs.declared.Kind.TheVariants.{Sequence}
use Rattle.kinds.proofs.Same.{is_kind, not_kind}
use Rattle.checker.proofs.Ready.{ready_by}
use Rattle.reader.proofs.Lent.{seeks}
use Rattle.reader.proofs.Among.{code_most}
use Rattle.reader.proofs.Searching.{parted, few, near, type_low, may_optional, may_other, other_code, other_come, direct_found, direct_skip}
use Rattle.reader.proofs.Searching.{direct_stop, direct_end, direct_place, direct_no_place}
use Rattle.reader.proofs.search.direct.Goals as goal
use Rattle.reader.proofs.search.direct.Goals.{then-came-k-eq0+else-begins, else-came-k-eq0, then-eq+else-not-optional, else-eq}

pub overflow_mul-p : goal.overflow_mul-p
overflow_mul-p c =
    let x = c.args.table.now in
    omega (arith, near (parted (seeks (ready_by x) c.requires) c.describe-e.ensures c.parts-s.ensures) _ c.loop-k-test.true)

pub overflow_add-p : goal.overflow_add-p
overflow_add-p c =
    let x = c.args.table.now in
    omega (arith, near (parted (seeks (ready_by x) c.requires) c.describe-e.ensures c.parts-s.ensures) _ c.loop-k-test.true)

pub offset_bounds-came-k : goal.offset_bounds-came-k
offset_bounds-came-k c =
    let x = c.args.table.now in
    omega (arith, few (parted (seeks (ready_by x) c.requires) c.describe-e.ensures c.parts-s.ensures))

pub bounds-came-k : goal.bounds-came-k
bounds-came-k c =
    let x = c.args.table.now in
    omega (arith, few (parted (seeks (ready_by x) c.requires) c.describe-e.ensures c.parts-s.ensures))

pub bounds-table-t : goal.bounds-table-t
bounds-table-t c =
    let x = c.args.table.now in
    let R = ready_by x in
    let D = parted (seeks R c.requires) c.describe-e.ensures c.parts-s.ensures in
    omega (arith, type_low D _ c.loop-k-test.true _ c.octet-t.ensures.0, R.passes.few)

pub begins-requires : goal.begins-requires
begins-requires c =
    let x = c.args.table.now in
    let R = ready_by x in
    let D = parted (seeks R c.requires) c.describe-e.ensures c.parts-s.ensures in
    code_most R _ (type_low D _ c.loop-k-test.true _ c.octet-t.ensures.0)

pub returns-then-begins : goal.returns-then-begins
returns-then-begins c =
    let x = c.args.table.now in
    let D = parted (seeks (ready_by x) c.requires) c.describe-e.ensures c.parts-s.ensures in
    direct_place D _ _ _ c.loop-k-test.true
    (c.loop-k.invariant ∙ direct_found D _ c.loop-k-test.true _ _ _ c.octet-t.ensures.0 c.begins.ensures c.if-came-k-eq0.true c.if-begins.true)

pub returns-then-not-optional : goal.returns-then-not-optional
returns-then-not-optional c =
    let x = c.args.table.now in
    let D = parted (seeks (ready_by x) c.requires) c.describe-e.ensures c.parts-s.ensures in
    direct_no_place D _ _
    (c.loop-k.invariant ∙ direct_stop D _ c.loop-k-test.true _ (elim c.if-came-k-eq0.branch [
      | then-came-k-eq0+else-begins x ↦ other_code D _ c.loop-k-test.true _ x.octet-t.result x.begins.result x.octet-t.ensures.0 x.begins.ensures x.if-begins.false
      | else-came-k-eq0 x ↦ other_come D _ c.loop-k-test.true _ x.if-came-k-eq0.false
    ]) (is_kind c.describe-e.result.kind Sequence c.eq.ensures c.if-eq.true) _ c.optional.ensures c.if-not-optional.true)

pub loop-k-preserved : goal.loop-k-preserved
loop-k-preserved c =
    let x = c.args.table.now in
    let D = parted (seeks (ready_by x) c.requires) c.describe-e.ensures c.parts-s.ensures in
    c.loop-k.invariant ∙ direct_skip D _ c.loop-k-test.true _ (elim c.if-came-k-eq0.branch [
      | then-came-k-eq0+else-begins x ↦ other_code D _ c.loop-k-test.true _ x.octet-t.result x.begins.result x.octet-t.ensures.0 x.begins.ensures x.if-begins.false
      | else-came-k-eq0 x ↦ other_come D _ c.loop-k-test.true _ x.if-came-k-eq0.false
    ]) (elim c.if-eq.branch [
      | then-eq+else-not-optional x ↦ may_optional D _ c.loop-k-test.true (is_kind c.describe-e.result.kind Sequence c.eq.ensures x.if-eq.true) x.optional.result x.optional.ensures x.if-not-optional.false
      | else-eq x ↦ may_other D _ c.loop-k-test.true (not_kind c.describe-e.result.kind Sequence c.eq.ensures x.if-eq.false)
    ])

pub returns : goal.returns
returns c =
    let x = c.args.table.now in
    let D = parted (seeks (ready_by x) c.requires) c.describe-e.ensures c.parts-s.ensures in
    direct_no_place D _ _ (c.loop-k.invariant ∙ direct_end D _ _ c.loop-k-test.false)
