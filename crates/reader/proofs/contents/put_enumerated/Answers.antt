use Rattle.std.proofs.Common.{refl, ◌∙◌, ◌≡◌, ◌≤◌, arith, ℤ, pos, List, ℕ, length, w64, to_z, of_z, FitsSigned}
use Rattle.std.proofs.lemmas.Int.{to_z-of_z}
use Rattle.simple.specs.Integers.{integer_in}
use Rattle.x690.specs.Integer.{integer_of}
use Rattle.coding.specs.Reading.{natural}
use Rattle.reader.proofs.LeafStores.{integer_is}
use Rattle.reader.proofs.contents.put_enumerated.Goals as goal

number_is : (z : ℤ) (c : List ℕ) → FitsSigned w64 z → length c ≤ 8 → z ≡ integer_in c → integer_of c ≡ pos (natural (integer_of c))
    → to_z w64 (of_z w64 z) ≡ pos (natural (integer_of c))
number_is z c f h e n = to_z-of_z w64 z f ∙ integer_is c z h e ∙ n

pub overflow_cast-of : goal.overflow_cast-of
overflow_cast-of c =
    rw (number_is _ _ (record { sfits = c.of.type_inv }) c.requires.1 c.of.ensures c.requires.3) (tt, omega arith)

pub put_number-requires : goal.put_number-requires
put_number-requires c =
    rw (number_is _ _ (record { sfits = c.of.type_inv }) c.requires.1 c.of.ensures c.requires.3) (c.requires.2, c.requires.4)

pub returns : goal.returns
returns c =
    (refl, rw (number_is _ _ (record { sfits = c.of.type_inv }) c.requires.1 c.of.ensures c.requires.3) at c.put_number.ensures)
