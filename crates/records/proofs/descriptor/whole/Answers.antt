-- The number is that of a descriptor with 0 for all but the place and the kind.
-- Assumes nothing.
use Rattle.std.proofs.Common.{ap, ◌∙◌, ℕ, arith}
use Rattle.kinds.specs.Kinds.{kind_at}
use Rattle.records.specs.Descriptors.{described}
use Rattle.records.proofs.Packing.{describes_number}
use Rattle.records.proofs.descriptor.whole.Goals as goal

pub returns : goal.returns
unfolding kind_at
returns c = ap (λ (w : ℕ). described w) (omega arith) ∙ describes_number 0 13 c.args.t 0 (omega arith) (omega arith) (omega arith)
