-- `link::yinscarf_check`: the place of what is refused fits.
-- Assumes nothing.
use Rattle.link.proofs.Small.{check_within}
use Rattle.link.proofs.yinscarf_check.Goals as goal

pub pack-requires : goal.pack-requires
pack-requires c = rw c.check.ensures (check_within c.args.table.now)
