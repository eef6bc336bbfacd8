-- By the number as an integer.
-- Assumes nothing.
use Rattle.std.proofs.Common.{ap, ◌∙◌, ℤ, length, w64, arith}
use mir.ValLaws.{to_z_pos}
use Rattle.x690.specs.Integer.{fewest_of}
use Rattle.writer.proofs.contents.number_size.Goals as goal

pub returns : goal.returns
returns c =
    (c.size.ensures.0 ∙ ap (λ (z : ℤ). length (fewest_of z)) (to_z_pos w64 c.args.n (omega arith)), c.size.ensures.2)
