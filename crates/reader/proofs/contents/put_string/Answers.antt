use Rattle.std.proofs.Common.{refl}
use Rattle.reader.proofs.LeafStores.{number_filled}
use Rattle.reader.proofs.contents.put_string.Goals as goal

pub returns : goal.returns
returns c = (refl, number_filled _ _ c.args.c.now _ _ _ _ c.put_number.ensures refl c.requires.1 c.copy.ensures)
