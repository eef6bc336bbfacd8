-- One law for each way out.
use Rattle.std.proofs.Common.{arith}
use Rattle.table.specs.Reading.{table_in}
use Rattle.reader.proofs.Outcomes.{out_type, out_long, refused_within, out_refused, out_over, out_room, fits, out_done}
use Rattle.reader.proofs.read_passed.Goals as goal

pub returns-then-table-t : goal.returns-then-table-t
returns-then-table-t c = out_type (table_in c.args.table.now.octets.now) _ _ c.args.message.now c.args.buf.now c.if-table-t.true

pub returns-then-message-gt-LONGEST_MESSAGE : goal.returns-then-message-gt-LONGEST_MESSAGE
returns-then-message-gt-LONGEST_MESSAGE c =
    out_long (table_in c.args.table.now.octets.now) _ _ c.args.message.now c.args.buf.now c.if-table-t.false c.if-message-gt-LONGEST_MESSAGE.true

pub overflow_sub-place : goal.overflow_sub-place
overflow_sub-place c = refused_within (table_in c.args.table.now.octets.now) _ c.args.message.now _ c.judge.ensures _ _ c.in-Err.is

pub returns-in-Err : goal.returns-in-Err
returns-in-Err c =
    rw c.from.ensures (out_refused (table_in c.args.table.now.octets.now) _ c.args.message.now _ c.judge.ensures _ c.args.buf.now
    c.if-table-t.false c.if-message-gt-LONGEST_MESSAGE.false _ _ c.in-Err.is)

pub returns-then-x-gt-LONGEST_VALUE : goal.returns-then-x-gt-LONGEST_VALUE
returns-then-x-gt-LONGEST_VALUE c =
    out_over (table_in c.args.table.now.octets.now) _ c.args.message.now _ c.judge.ensures _ c.args.buf.now
    c.if-table-t.false c.if-message-gt-LONGEST_MESSAGE.false _ _ c.in-Ok.is c.if-x-gt-LONGEST_VALUE.true

pub returns-then-buf-x : goal.returns-then-buf-x
returns-then-buf-x c =
    out_room (table_in c.args.table.now.octets.now) _ c.args.message.now _ c.judge.ensures _ c.args.buf.now
    c.if-table-t.false c.if-message-gt-LONGEST_MESSAGE.false _ _ c.in-Ok.is c.if-x-gt-LONGEST_VALUE.false c.if-buf-x.true

pub place-requires : goal.place-requires
place-requires c = (
  omega (arith, c.if-table-t.false, c.args.table.now.counted),
  c.if-message-gt-LONGEST_MESSAGE.false,
  fits (table_in c.args.table.now.octets.now) _ c.args.message.now _ c.judge.ensures _ c.args.buf.now
      c.if-table-t.false c.if-message-gt-LONGEST_MESSAGE.false _ _ c.in-Ok.is c.if-x-gt-LONGEST_VALUE.false c.if-buf-x.false,
)

pub returns : goal.returns
returns c =
    out_done (table_in c.args.table.now.octets.now) _ c.args.message.now _ c.judge.ensures _ c.args.buf.now
    c.if-table-t.false c.if-message-gt-LONGEST_MESSAGE.false _ _ c.in-Ok.is c.if-x-gt-LONGEST_VALUE.false c.if-buf-x.false _ c.place.ensures

pub judge-requires : goal.judge-requires
judge-requires c = (omega (arith, c.if-table-t.false, c.args.table.now.counted), c.if-message-gt-LONGEST_MESSAGE.false)
