-- `reader::search::indirect` meets its contract.
-- Assumes nothing.
use Rattle.std.proofs.Common.{◌∙◌, inl, inr, eq-eqb, arith}
use borrow.Author.Tests.{ne_eqb}
use Rattle.kinds.specs.declared.Kind.TheVariants.{Sequence, Message}
use Rattle.kinds.proofs.Same.{is_kind, not_kind}
use Rattle.checker.proofs.Ready.{ready_by}
use Rattle.reader.proofs.Lent.{seeks}
use Rattle.reader.proofs.Searching.{Parted, parted, Counted, Candidate, near, few_parts, turn_part, typed_part, candidate, candidate_low}
use Rattle.reader.proofs.Searching.{indirect_part, indirect_stop}
use Rattle.reader.proofs.Searching.{indirect_optional, indirect_other, indirect_come, indirect_end}
use Rattle.reader.proofs.search.indirect.Goals as goal
use Rattle.reader.proofs.search.indirect.Goals.{Joined-whole, Joined-whole-2, then-whole, else-whole, then-whole-2, else-whole-2}
use Rattle.reader.proofs.search.indirect.Goals.{then-came-k-eq0+in_default+then-eq+else-not-optional, then-came-k-eq0+in_default+else-eq, else-came-k-eq0}
use Rattle.reader.proofs.search.indirect.Goals.{else-loop-k-test, then-loop-k-test+then-came-k-eq0+in_default+then-eq+then-not-optional}

-- the parts of the entry
abbrev parted_by : (c : Joined-whole) → Parted c.args.table.now.octets.now c.args.table.now.index.now c.args.w c.args.came.now c.describe-e.result c.parts-s.result
parted_by c = parted (seeks (ready_by c.args.table.now) c.requires.0) c.describe-e.ensures c.parts-s.ensures

-- how many are looked at
counted : (c : Joined-whole) → Counted (parted_by c) c.if-whole.n
counted c =
    elim c.if-whole.branch [
      | then-whole x ↦ inl (eq-eqb _ _ (is_kind c.describe-e.result.kind Message c.eq-whole.ensures x.if-whole.true), x.n-is)
      | else-whole x ↦ inr (ne_eqb _ _ (not_kind c.describe-e.result.kind Message c.eq-whole.ensures x.if-whole.false), x.n-is)
    ]

-- the one that is looked at
candidate_by : (c : Joined-whole-2) → let D = parted (seeks (ready_by c.args.table.now) c.requires.0) c.describe-e.ensures c.parts-s.ensures in
    Counted D c.if-whole.n → Candidate D c.loop-k.k c.if-whole-2.t
candidate_by c K =
    let D = parted (seeks (ready_by c.args.table.now) c.requires.0) c.describe-e.ensures c.parts-s.ensures in
    candidate D _ _ c.if-whole-2.t K c.loop-k-test.true (elim c.if-whole-2.branch [
      | then-whole-2 y ↦ inl (eq-eqb _ _ (is_kind c.describe-e.result.kind Message c.eq-whole.ensures y.if-whole-2.true), y.t-is)
      | else-whole-2 y ↦ typed_part D K c.loop-k-test.true (ne_eqb _ _ (not_kind c.describe-e.result.kind Message c.eq-whole.ensures y.if-whole-2.false)) y.t-is y.part-t.ensures.0
    ])

pub offset_bounds-came-k : goal.offset_bounds-came-k
offset_bounds-came-k c = let z = (goal.at.offset_bounds-came-k c).Joined-whole in omega (arith, few_parts (parted_by z) _ (counted z))

pub bounds-came-k : goal.bounds-came-k
bounds-came-k c = let z = (goal.at.bounds-came-k c).Joined-whole in omega (arith, few_parts (parted_by z) _ (counted z))

pub seek-requires : goal.seek-requires
seek-requires c =
    let z = goal.at.seek-requires c in
    let w = z.Joined-whole in
    (candidate_low (parted_by w) c.args.code _ _ (candidate_by z.Joined-whole-2 (counted w)), c.requires.2)

pub returns-in-Some : goal.returns-in-Some
returns-in-Some c =
    let z = goal.at.returns-in-Some c in
    let w = z.Joined-whole in
    indirect_part (parted_by w) c.args.code _ _ (candidate_by z.Joined-whole-2 (counted w)) _ _ c.seek.ensures _ _ _ _ c.loop-k.invariant c.if-came-k-eq0.true c.in-Some.is

pub overflow_mul-s : goal.overflow_mul-s
overflow_mul-s c =
    let z = (goal.at.overflow_mul-s c).Joined-whole in
    let D = parted_by z in
    omega (arith, near D _ (turn_part D _ _ (counted z) c.loop-k-test.true (is_kind c.describe-e.result.kind Sequence c.eq.ensures c.if-eq.true)))

pub overflow_add-s : goal.overflow_add-s
overflow_add-s c =
    let z = (goal.at.overflow_add-s c).Joined-whole in
    let D = parted_by z in
    omega (arith, near D _ (turn_part D _ _ (counted z) c.loop-k-test.true (is_kind c.describe-e.result.kind Sequence c.eq.ensures c.if-eq.true)))

pub loop-k-preserved : goal.loop-k-preserved
loop-k-preserved c =
    let z = (goal.at.loop-k-preserved c).Joined-whole in
    let D = parted_by z in
    let K = counted z in
    c.loop-k.invariant ∙ elim c.if-came-k-eq0.branch [
      | then-came-k-eq0+in_default+then-eq+else-not-optional x ↦
          indirect_optional D _ _ x.if-whole-2.t (candidate D _ _ x.if-whole-2.t K c.loop-k-test.true (elim x.if-whole-2.branch [
            | then-whole-2 y ↦ inl (eq-eqb _ _ (is_kind c.describe-e.result.kind Message c.eq-whole.ensures y.if-whole-2.true), y.t-is)
            | else-whole-2 y ↦ typed_part D K c.loop-k-test.true (ne_eqb _ _ (not_kind c.describe-e.result.kind Message c.eq-whole.ensures y.if-whole-2.false)) y.t-is y.part-t.ensures.0
          ])) _ x.seek.result x.seek.ensures x.if-came-k-eq0.true x.in_default.is (is_kind c.describe-e.result.kind Sequence x.eq.ensures x.if-eq.true)
          x.optional.result x.optional.ensures x.if-not-optional.false
      | then-came-k-eq0+in_default+else-eq x ↦
          indirect_other D _ _ x.if-whole-2.t (candidate D _ _ x.if-whole-2.t K c.loop-k-test.true (elim x.if-whole-2.branch [
            | then-whole-2 y ↦ inl (eq-eqb _ _ (is_kind c.describe-e.result.kind Message c.eq-whole.ensures y.if-whole-2.true), y.t-is)
            | else-whole-2 y ↦ typed_part D K c.loop-k-test.true (ne_eqb _ _ (not_kind c.describe-e.result.kind Message c.eq-whole.ensures y.if-whole-2.false)) y.t-is y.part-t.ensures.0
          ])) _ x.seek.result x.seek.ensures x.if-came-k-eq0.true x.in_default.is (not_kind c.describe-e.result.kind Sequence x.eq.ensures x.if-eq.false)
      | else-came-k-eq0 x ↦ indirect_come D _ _ _ K c.loop-k-test.true x.if-came-k-eq0.false
    ]

pub returns : goal.returns
returns c =
    let z = (goal.at.returns c).Joined-whole in
    let D = parted_by z in
    let K = counted z in (
      c.loop-k.invariant ∙ elim c.loop-k-test.branch [
        | else-loop-k-test x ↦ indirect_end D _ _ _ K x.loop-k-test.false
        | then-loop-k-test+then-came-k-eq0+in_default+then-eq+then-not-optional x ↦
            indirect_stop D _ _ _ (candidate D _ _ x.if-whole-2.t K x.loop-k-test.true (elim x.if-whole-2.branch [
              | then-whole-2 y ↦ inl (eq-eqb _ _ (is_kind c.describe-e.result.kind Message c.eq-whole.ensures y.if-whole-2.true), y.t-is)
              | else-whole-2 y ↦ typed_part D K x.loop-k-test.true (ne_eqb _ _ (not_kind c.describe-e.result.kind Message c.eq-whole.ensures y.if-whole-2.false)) y.t-is y.part-t.ensures.0
            ])) _ x.seek.result x.seek.ensures x.if-came-k-eq0.true x.in_default.is (is_kind c.describe-e.result.kind Sequence x.eq.ensures x.if-eq.true)
            x.optional.result x.optional.ensures x.if-not-optional.true
      ],
      c.unawaited.ensures,
    )
