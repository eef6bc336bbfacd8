-- `cases::line::put_done`: the text is the line.
-- Assumes nothing.
use Rattle.std.proofs.Common.{sym, ◌∙◌, arith}
use borrow.Author.Tests.{eqb-true, eqb-false}
use lib.ListN.{length-append}
use Rattle.cases.proofs.Lines.{done_none, done_some}
use Rattle.cases.proofs.Lengths.{done_length, decimal_length}
use Rattle.cases.proofs.Digits.{hexadecimal_length}
use Rattle.cases.proofs.line.put_done.Goals as goal

pub writeln-requires : goal.writeln-requires
writeln-requires c =
    rw (c.requires.empty, done_none c.args.number c.args.octets.now (eqb-true _ _ (sym c.is_empty.ensures ∙ c.if-is_empty.true)))
    (omega (arith, done_length c.args.number c.args.octets.now c.ranges.number.fits c.requires.short))

pub write-requires : goal.write-requires
write-requires c = rw c.requires.empty (simp length-append (omega (arith, decimal_length c.args.number c.ranges.number.fits)))

pub push_hexadecimal-requires : goal.push_hexadecimal-requires
push_hexadecimal-requires c =
    rw (c.write.ensures, c.requires.empty)
    (simp length-append (omega (arith, decimal_length c.args.number c.ranges.number.fits, hexadecimal_length c.args.octets.now, c.requires.short)))

pub writeln-requires-else-is_empty : goal.writeln-requires-else-is_empty
writeln-requires-else-is_empty c =
    rw (c.push_hexadecimal.ensures, c.write.ensures, c.requires.empty)
    (simp length-append (omega (arith, decimal_length c.args.number c.ranges.number.fits, hexadecimal_length c.args.octets.now, c.requires.short)))

pub returns-then-is_empty : goal.returns-then-is_empty
returns-then-is_empty c =
    rw (c.requires.empty, done_none c.args.number c.args.octets.now (eqb-true _ _ (sym c.is_empty.ensures ∙ c.if-is_empty.true))) at c.writeln.ensures

pub returns-else-is_empty : goal.returns-else-is_empty
returns-else-is_empty c =
    rw (c.push_hexadecimal.ensures, c.write.ensures, c.requires.empty, done_some c.args.number c.args.octets.now (eqb-false _ _ (sym c.is_empty.ensures ∙ c.if-is_empty.false)))
    at c.writeln-else-is_empty.ensures
