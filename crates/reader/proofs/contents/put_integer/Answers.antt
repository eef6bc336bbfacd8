use Rattle.std.proofs.Common.{refl, sym}
use Rattle.std.proofs.lemmas.Int.{to_z-of_z}
use Rattle.octets.proofs.Buffers.{part_filled}
use Rattle.x690.specs.Integer.{eight_of, integer_of}
use Rattle.x690.proofs.Integers.{eight_length}
use Rattle.reader.proofs.LeafStores.{integer_is}
use Rattle.reader.proofs.contents.put_integer.Goals as goal

pub returns : goal.returns
returns c =
    let e = rw (to_z-of_z _ _ (record { sfits = c.of.type_inv }), integer_is _ _ c.requires.1 c.of.ensures) at c.put_eight.ensures in
    (refl, part_filled _ (eight_of (integer_of c.args.c.now)) _ _ 8 (sym (eight_length _)) c.requires.2 e)
