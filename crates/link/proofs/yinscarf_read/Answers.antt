-- `link::yinscarf_read`: the length or the place fits.
-- Assumes nothing.
use Rattle.link.proofs.Small.{read_small}
use Rattle.link.proofs.yinscarf_read.Goals as goal

pub pack-requires : goal.pack-requires
pack-requires c =
    let a = c.args in
    rw c.read.ensures.0 (read_small a.table.now a.t a.message.now a.buf.now (λ i. (c.type_inv.message i).fits))
