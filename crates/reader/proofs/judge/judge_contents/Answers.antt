-- `reader::judge::judge_contents` meets its contract.
-- Assumes nothing.
use Rattle.reader.proofs.JudgedValue.{sized_done}
use Rattle.reader.proofs.judge.judge_contents.Goals as goal

pub returns-in-Some : goal.returns-in-Some
returns-in-Some c =
    let q = c.requires in
    let a = c.args in
    sized_done q.1 a.lead a.c.now q.2 q.5 c.if-not-indefinite.true a.left a.behind _ c.contents_size.ensures.0 c.contents_size.ensures.1 c.in-Some.is
