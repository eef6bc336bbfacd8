-- A time is put over a part that has as many octets.
use Rattle.std.proofs.Common.{sym, ◌∙◌}
use Rattle.digits.proofs.TimeCode.{time_stays, time_put, puts}
use Rattle.digits.proofs.time.put.Goals as goal

pub returns-then-part-size : goal.returns-then-part-size
returns-then-part-size c = puts c.args.kind c.args.t c.args.part.now (time_stays c.args.kind _ c.args.part.now λ e. c.if-part-size.true (e ∙ sym c.size.ensures))

pub returns : goal.returns
returns c =
    let l = c.if-part-size.false ∙ c.size.ensures in
    puts c.args.kind c.args.t c.args.part.now (time_put c.args.kind c.args.t c.args.part.now l c.year_size.ensures c.put_year.ensures c.put_later.ensures)
