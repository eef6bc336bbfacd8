-- The number is that of an entry with 0 for all but the place and the kind.
-- Assumes nothing.
use Rattle.std.proofs.Common.{ap, ◌∙◌, false, ℕ, arith}
use Rattle.records.specs.Entries.{unpacked, packed}
use Rattle.records.proofs.Packing.{unpacks}
use Rattle.records.proofs.entry.whole.Goals as goal

pub returns : goal.returns
unfolding packed
returns c =
    ap (λ (w : ℕ). unpacked w) (omega arith) ∙
    unpacks (record { code = 0; own = c.args.t; kind = 51; explicit = 0; simple = false }) (omega arith) (omega arith) (omega arith) (omega arith)
