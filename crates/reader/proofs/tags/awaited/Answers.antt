-- `reader::tags::awaited` meets its contract.
-- Assumes nothing.
use Rattle.std.proofs.Common.{◌≡◌, Err, rules, arith}
use Rattle.checker.proofs.Ready.{ready_by}
use Rattle.reader.proofs.Tagging.{awaits_none, awaits_unread, awaits_small, awaits_tag, awaits_string, awaits_other, awaits_explicit, awaits_neither}
use Rattle.reader.proofs.tags.awaited.Goals as goal

pub returns-then-tag_count-j : goal.returns-then-tag_count-j
returns-then-tag_count-j c =
    awaits_none (ready_by c.args.table.now) c.requires _ c.describe-e.ensures _ c.tag_count.ensures.0 _ _ c.if-tag_count-j.true

pub returns-in_err-i : goal.returns-in_err-i
returns-in_err-i c =
    let e : c.from_residual.result ≡ Err c.in_err-i.field-0.0 = search rules in
    rw e
    (awaits_unread (ready_by c.args.table.now) c.requires _ c.describe-e.ensures _ c.tag_count.ensures.0 _ _ c.if-tag_count-j.false
    (λ i. omega (arith, c.type_inv.m i)) _ c.read.ensures _ c.in_err-i.was)

pub returns-then-i-awaited : goal.returns-then-i-awaited
returns-then-i-awaited c =
    awaits_tag (ready_by c.args.table.now) c.requires _ c.describe-e.ensures _ c.tag_count.ensures.0 _ _ c.if-tag_count-j.false
    (λ i. omega (arith, c.type_inv.m i)) _ c.read.ensures _ _ c.in_ok-i.was _ c.tag_code-awaited.ensures c.if-i-awaited.true

pub overflow_add-awaited : goal.overflow_add-awaited
overflow_add-awaited c =
    omega (
      arith,
      awaits_small (ready_by c.args.table.now) c.requires _ c.describe-e.ensures _ c.tag_count.ensures.0 _ _ c.if-tag_count-j.false
          (λ i. omega (arith, c.type_inv.m i)) _ c.read.ensures _ _ c.in_ok-i.was _ c.tag_code-awaited.ensures,
    )

pub returns-then-is_string : goal.returns-then-is_string
returns-then-is_string c =
    awaits_string (ready_by c.args.table.now) c.requires _ c.describe-e.ensures _ c.tag_count.ensures.0 _ _ c.if-tag_count-j.false
    (λ i. omega (arith, c.type_inv.m i)) _ c.read.ensures _ _ c.in_ok-i.was _ c.tag_code-awaited.ensures
    c.if-i-awaited.false c.if-e-j.true _ c.is_string.ensures c.if-i-awaited-2.true c.if-is_string.true

pub returns-else-is_string : goal.returns-else-is_string
returns-else-is_string c =
    awaits_other (ready_by c.args.table.now) c.requires _ c.describe-e.ensures _ c.tag_count.ensures.0 _ _ c.if-tag_count-j.false
    (λ i. omega (arith, c.type_inv.m i)) _ c.read.ensures _ _ c.in_ok-i.was _ c.tag_code-awaited.ensures
    c.if-i-awaited.false c.if-e-j.true _ c.is_string.ensures c.if-is_string.false

pub returns-else-e-j : goal.returns-else-e-j
returns-else-e-j c =
    awaits_explicit (ready_by c.args.table.now) c.requires _ c.describe-e.ensures _ c.tag_count.ensures.0 _ _ c.if-tag_count-j.false
    (λ i. omega (arith, c.type_inv.m i)) _ c.read.ensures _ _ c.in_ok-i.was _ c.tag_code-awaited.ensures
    c.if-i-awaited.false c.if-e-j.false

pub returns-else-i-awaited-2 : goal.returns-else-i-awaited-2
returns-else-i-awaited-2 c =
    awaits_neither (ready_by c.args.table.now) c.requires _ c.describe-e.ensures _ c.tag_count.ensures.0 _ _ c.if-tag_count-j.false
    (λ i. omega (arith, c.type_inv.m i)) _ c.read.ensures _ _ c.in_ok-i.was _ c.tag_code-awaited.ensures
    c.if-i-awaited.false c.if-i-awaited-2.false
