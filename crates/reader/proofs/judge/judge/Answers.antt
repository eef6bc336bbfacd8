-- `reader::judge::judge` meets its contract.
-- Assumes nothing.
use Rattle.std.proofs.Common.{◌≡◌, ◌∙◌, Err, rules, arith}
use Rattle.table.specs.Reading.{table_in}
use Rattle.reader.proofs.JudgedValue.{message_known, message_empty, message_refused, message_trailing, message_done}
use Rattle.reader.proofs.judge.judge.Goals as goal

pub returns-then-m-eq0 : goal.returns-then-m-eq0
returns-then-m-eq0 c = message_empty (table_in _) 24 _ _ c.if-m-eq0.true

pub judge_members-requires : goal.judge_members-requires
judge_members-requires c =
    let q = c.requires in
    let k = message_known _ _ q.0 c.whole.ensures in
    record {
      known = k.0;
      holds = k.1;
      some = λ _. omega (arith, c.if-m-eq0.false);
      short = q.1;
      levels = omega arith;
    }

pub returns-in_err-x : goal.returns-in_err-x
returns-in_err-x c =
    let w = c.whole in
    let r = c.judge_members in
    let f = c.in_err-x.field-0.0 in
    let e : c.from_residual.result ≡ Err c.in_err-x.field-0.0 = search rules in
    e ∙ message_refused _ _ 24 _ c.if-m-eq0.false w.result w.ensures r.result r.ensures f.cause f.left c.in_err-x.was

pub returns-then-x-m : goal.returns-then-x-m
returns-then-x-m c =
    let w = c.whole in
    let r = c.judge_members in
    let x = c.in_ok-x.x in
    message_trailing _ _ 24 _ c.if-m-eq0.false w.result w.ensures r.result r.ensures x.end x.size c.in_ok-x.was c.if-x-m.true

pub returns : goal.returns
returns c =
    let w = c.whole in
    let r = c.judge_members in
    let x = c.in_ok-x.x in
    message_done _ _ 24 _ c.if-m-eq0.false w.result w.ensures r.result r.ensures x.end x.size c.in_ok-x.was c.if-x-m.false
