-- `cases::line::put_cut`: the text is the line.
-- Assumes nothing.
use native.Mathlib.Omega.{arith}
use Rattle.cases.proofs.Lines.{cut_whole}
use Rattle.cases.proofs.Lengths.{cut_length}
use Rattle.cases.proofs.line.put_cut.Goals as goal

pub writeln-requires : goal.writeln-requires
writeln-requires c = rw (c.requires, cut_whole c.args.number) (omega (arith, cut_length c.args.number c.ranges.number.fits))

pub returns : goal.returns
returns c = rw (c.requires, cut_whole c.args.number) at c.writeln.ensures
