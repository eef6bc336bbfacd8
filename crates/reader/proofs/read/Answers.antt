-- The verdict on the table, then the outcome by its records.
use Rattle.std.proofs.lemmas.Result.{err_from_is_err_and}
use Rattle.coding.specs.Calls.{read_outcome, whole_read}
use Rattle.coding.proofs.Checked.{out_table, out_passed}
use Rattle.reader.proofs.read.Goals as goal

pub returns-in_err-table : goal.returns-in_err-table
unfolding whole_read
returns-in_err-table c =
    let a = c.args in
    let u = c.in_err-table.field-0.0 in
    let p = err_from_is_err_and c.from_residual.result c.from_residual.ensures.1 in
    rw (p.1, p.2) (out_table a.table.now a.buf.now (λ T n. read_outcome T n a.t a.message.now a.buf.now) u.cause u.place c.in_err-table.ensures.refused)

pub returns : goal.returns
unfolding whole_read
returns c =
    let a = c.args in
    let x = c.in_ok-table.table in
    let q = c.in_ok-table.ensures.passes in
    out_passed a.table.now a.buf.now (λ T n. read_outcome T n a.t a.message.now a.buf.now) q.0 _ _ (rw (x.counted, q.1) at c.read_passed.ensures)
