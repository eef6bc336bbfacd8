-- What contents spell, if they are as long as those of a time.
use Rattle.std.proofs.Common.{sym, ◌∙◌}
use Rattle.digits.proofs.TimeCode.{from_read, none_read, reads}
use Rattle.digits.proofs.time.of.Goals as goal

pub returns-then-c-size : goal.returns-then-c-size
returns-then-c-size c = reads c.args.kind c.args.c.now (none_read c.args.kind c.args.c.now λ e. c.if-c-size.true (e ∙ sym c.size.ensures))

pub returns : goal.returns
returns c =
    let l = c.if-c-size.false ∙ c.size.ensures in
    reads c.args.kind c.args.c.now (c.from.ensures ∙ from_read c.args.kind c.args.c.now l c.year.ensures c.year_size.ensures)
