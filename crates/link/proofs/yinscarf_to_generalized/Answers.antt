-- `link::yinscarf_to_generalized`: the length or the place fits.
-- Assumes nothing.
use Rattle.dates.specs.declared.TimeKind.TheVariants.{Utc}
use Rattle.link.proofs.Small.{conversion_small}
use Rattle.link.proofs.yinscarf_to_generalized.Goals as goal

pub pack-requires : goal.pack-requires
pack-requires c =
    let a = c.args in
    rw c.to_generalized.ensures.0 (conversion_small Utc _ a.time.now a.buf.now (λ i. (c.type_inv.time i).fits))
