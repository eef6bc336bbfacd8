-- `link::yinscarf_to_utc`: the length or the place fits.
-- Assumes nothing.
use Rattle.dates.specs.declared.TimeKind.TheVariants.{Generalized}
use Rattle.link.proofs.Small.{conversion_small}
use Rattle.link.proofs.yinscarf_to_utc.Goals as goal

pub pack-requires : goal.pack-requires
pack-requires c =
    let a = c.args in
    rw c.to_utc.ensures.0 (conversion_small Generalized _ a.time.now a.buf.now (λ i. (c.type_inv.time i).fits))
