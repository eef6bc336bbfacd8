-- `writer::write_passed`: one law for each way out.
-- Assumes nothing.
use Rattle.std.proofs.Common.{arith, refl}
use Rattle.std.proofs.lemmas.Result.{err_from_is_err_and}
use Rattle.table.specs.Reading.{table_in}
use Rattle.writer.proofs.Written.{out_type, out_long, out_refused, out_left, out_room, fits, out_done}
use Rattle.writer.proofs.write_passed.Goals as goal

pub returns-then-table-t : goal.returns-then-table-t
returns-then-table-t c = let a = c.args in out_type (table_in a.table.now.octets.now) a.table.now.count a.t a.value.now a.buf.now c.if-table-t.true

pub returns-then-value-gt-LONGEST_VALUE : goal.returns-then-value-gt-LONGEST_VALUE
returns-then-value-gt-LONGEST_VALUE c =
    let a = c.args in
    out_long (table_in a.table.now.octets.now) a.table.now.count a.t a.value.now a.buf.now c.if-table-t.false c.if-value-gt-LONGEST_VALUE.true

pub returns-in_err-judged : goal.returns-in_err-judged
returns-in_err-judged c =
    let a = c.args in
    let u = c.in_err-judged.field-0.0 in
    let p = err_from_is_err_and c.from_residual.result c.from_residual.ensures.1 in
    rw (p.1, p.2)
    (out_refused (table_in a.table.now.octets.now) a.table.now.count a.t a.value.now a.buf.now c.if-table-t.false c.if-value-gt-LONGEST_VALUE.false _ c.judge.ensures.0 u.cause u.place
    c.in_err-judged.was)

pub returns-then-judged-value : goal.returns-then-judged-value
returns-then-judged-value c =
    let a = c.args in
    let d = c.in_ok-judged.judged in
    out_left (table_in a.table.now.octets.now) a.table.now.count a.t a.value.now a.buf.now c.if-table-t.false c.if-value-gt-LONGEST_VALUE.false _ c.judge.ensures.0 d.end d.size c.in_ok-judged.was
    c.if-judged-value.true

pub returns-then-buf-size : goal.returns-then-buf-size
returns-then-buf-size c =
    let a = c.args in
    let d = c.in_ok-judged.judged in
    out_room (table_in a.table.now.octets.now) a.table.now.count a.t a.value.now a.buf.now c.if-table-t.false c.if-value-gt-LONGEST_VALUE.false _ c.judge.ensures.0 d.end d.size c.in_ok-judged.was
    c.if-judged-value.false c.requires c.if-buf-size.true

pub put-requires : goal.put-requires
put-requires c =
    let a = c.args in
    let q = c.requires in
    let d = c.in_ok-judged.judged in (
      c.if-value-gt-LONGEST_VALUE.false,
      omega (arith, c.if-table-t.false, a.table.now.counted),
      c.judge.ensures.1.noted d.end d.size c.in_ok-judged.was _ (λ i x y. refl),
      fits (table_in a.table.now.octets.now) a.table.now.count a.t a.value.now a.buf.now c.if-table-t.false c.if-value-gt-LONGEST_VALUE.false _ c.judge.ensures.0 d.end d.size c.in_ok-judged.was
          c.if-judged-value.false q c.if-buf-size.false,
    )

pub returns : goal.returns
returns c =
    let a = c.args in
    let d = c.in_ok-judged.judged in
    out_done (table_in a.table.now.octets.now) a.table.now.count a.t a.value.now a.buf.now c.if-table-t.false c.if-value-gt-LONGEST_VALUE.false _ c.judge.ensures.0 d.end d.size c.in_ok-judged.was
    c.if-judged-value.false c.requires c.if-buf-size.false _ _ c.put.ensures
