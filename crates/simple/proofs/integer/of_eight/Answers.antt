-- By what the eight octets spell.
-- Assumes nothing.
use Rattle.std.proofs.Common.{◌∙◌, w64, rules}
use mir.Val.{SFits}
use mir.ValLaws.{to_z-of_z}
use Rattle.simple.proofs.IntegerCode.{read_bytes}
use Rattle.simple.proofs.integer.of_eight.Goals as goal

pub returns : goal.returns
returns c =
    let f : SFits w64 c.from_be_bytes.result = search rules in
    to_z-of_z w64 _ f ∙ c.from_be_bytes.ensures
    ∙ read_bytes c.args.c.now (λ i. (c.type_inv.c i).fits) c.in-Ok.ensures.1.long c.in-Ok.ensures.1.same
