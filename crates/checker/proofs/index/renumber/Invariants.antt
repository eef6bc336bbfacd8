-- The numbers before t are those of descriptors.
use Rattle.std.proofs.Common.{◌≡◌}
use Rattle.checker.specs.Index.{renumbered}
use Rattle.checker.proofs.index.renumber.Given as goal

abbrev pub invariant-loop-t : goal.invariant-loop-t
invariant-loop-t l = l.index ≡ renumbered l.t l.fn.index
