-- No other kind is shaped.
-- Assumes nothing.
use Rattle.std.proofs.Common.{refl, ap}
use Rattle.kinds.proofs.Same.{same_kind, none_of}
use Rattle.octets.specs.Numbers.{unless_zero}
use Rattle.writer.proofs.Nodes.{end_none}
use Rattle.writer.proofs.node.own_end.Goals as goal

pub returns-in_default : goal.returns-in_default
returns-in_default c =
    let a = c.args in
    let d = c.in_default in
    ap unless_zero (end_none a.v.now _ a.p c.requires.1 _ refl (none_of d.not-Sequence d.not-Set) _ refl (none_of d.not-SequenceOf d.not-SetOf) λ e. d.not-Choice (same_kind _ _ e))
