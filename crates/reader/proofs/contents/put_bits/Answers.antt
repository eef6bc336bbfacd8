use Rattle.std.proofs.Common.{refl, sym, ◌≡◌, ◌-◌, ◌*◌, ◌%◌, length, get_or, drop, arith}
use Rattle.x690.specs.BitString.{masked}
use Rattle.x690.proofs.BitString.{length_masked}
use Rattle.reader.proofs.LeafStores.{from_is, number_filled}
use Rattle.reader.proofs.contents.put_bits.Goals as goal

pub returns : goal.returns
returns c =
    let a = c.args in
    let d = drop 1 a.c.now in
    let u = get_or a.c.now 0 0 in
    let q : u % 8 ≡ u = omega arith in
    rw from_is (
      refl,
      number_filled a.buf.now _ (masked u d) _ a.to (8 * length d - u) (length d) (rw from_is at c.put_number.ensures) (sym (length_masked u d)) c.requires.4
          (rw (from_is, q) at c.copy_masked.ensures),
    )
