-- `cases::line::put_answer`: the line of each answer.
-- Assumes nothing.
use Rattle.std.proofs.Common.{rules, arith}
use lib.ListN.{length-append}
use Rattle.std.proofs.lemmas.List.{take_min}
use Rattle.cases.specs.Output.{output_line}
use Rattle.cases.proofs.Lines.{refused_whole}
use Rattle.cases.proofs.Lengths.{decimal_length}
use Rattle.cases.proofs.line.put_answer.Goals as goal

pub writeln-requires : goal.writeln-requires
writeln-requires c =
    let r = c.report_of-report.result in
    rw c.requires
    (simp length-append (omega (arith, decimal_length c.args.number c.ranges.number.fits, decimal_length r.number (search rules), decimal_length r.place (search rules))))

pub returns-in-Ok : goal.returns-in-Ok
unfolding output_line
returns-in-Ok c =
    let e = rw c.told-buf at (take_min c.in-Ok.n c.args.buf.now) in
    rw (c.in-Ok.is, ← e, ← c.min.ensures) c.put_done.ensures

pub returns-in-Err : goal.returns-in-Err
unfolding output_line
returns-in-Err c =
    let r = c.report_of-report in
    rw (c.in-Err.is, ← r.ensures.0, ← r.ensures.1, ← refused_whole c.args.number r.result.number r.result.place) (rw c.requires at c.writeln.ensures)
