-- `link::yinscarf_write`: the length or the place fits.
-- Assumes nothing.
use Rattle.link.proofs.Small.{write_small}
use Rattle.link.proofs.yinscarf_write.Goals as goal

pub pack-requires : goal.pack-requires
pack-requires c =
    let a = c.args in
    rw c.write.ensures.0 (write_small a.table.now a.t a.value.now a.buf.now (λ i. (c.type_inv.value i).fits))
