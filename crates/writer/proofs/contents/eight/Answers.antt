-- By the octets that are taken.
-- Assumes nothing.
use Rattle.std.proofs.Common.{◌∙◌, w64, rules}
use mir.Val.{SFits}
use mir.ValLaws.{to_z-of_z}
use Rattle.writer.proofs.Leaves.{eight_is}
use Rattle.writer.proofs.contents.eight.Goals as goal

pub returns : goal.returns
returns c =
    let f : SFits w64 c.of_eight.result = search rules in
    to_z-of_z w64 _ f ∙ eight_is c.args.v.now c.args.p c.requires _ c.of_eight.ensures
