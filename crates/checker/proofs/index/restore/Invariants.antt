-- The numbers before t are those of entries.
use Rattle.std.proofs.Common.{◌≡◌}
use Rattle.checker.specs.Index.{restored}
use Rattle.checker.proofs.index.restore.Given as goal

abbrev pub invariant-loop-t : goal.invariant-loop-t
invariant-loop-t l = l.index ≡ restored l.t l.fn.index
