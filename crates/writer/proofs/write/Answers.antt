-- The verdict on the table, then the outcome by its records.
-- Assumes nothing.
use Rattle.std.proofs.Common.{arith, ◌≡◌, length, min}
use Rattle.std.proofs.lemmas.Result.{err_from_is_err_and}
use Rattle.coding.specs.Calls.{write_outcome, whole_write}
use Rattle.coding.proofs.Checked.{out_table, out_passed}
use Rattle.writer.proofs.Written.{out_front, front_room}
use Rattle.writer.proofs.write.Goals as goal

pub returns-in_err-table : goal.returns-in_err-table
unfolding whole_write
returns-in_err-table c =
    let a = c.args in
    let u = c.in_err-table.field-0.0 in
    let p = err_from_is_err_and c.from_residual.result c.from_residual.ensures.1 in
    rw (p.1, p.2) (out_table a.table.now a.buf.now (λ T n. write_outcome T n a.t a.value.now a.buf.now) u.cause u.place c.in_err-table.ensures.refused)

pub write_passed-requires : goal.write_passed-requires
write_passed-requires c =
    let m : c.min-room.result ≡ min (length c.args.buf.now) 8192 = omega arith in
    front_room c.args.buf.now _ m

pub returns : goal.returns
unfolding whole_write
returns c =
    let a = c.args in
    let w = a.buf.now in
    let x = c.in_ok-table.table in
    let q = c.in_ok-table.ensures.passes in
    let m : c.min-room.result ≡ min (length w) 8192 = omega arith in
    out_passed a.table.now w (λ T n. write_outcome T n a.t a.value.now w) q.0 _ _
    (out_front w _ m _ _ _ _ _ _ (rw (x.counted, q.1) at c.write_passed.ensures))
