-- One number more.
use Rattle.std.proofs.Common.{refl, arith}
use Rattle.records.specs.Descriptors.{entry_number_of}
use Rattle.checker.specs.Index.{changed}
use Rattle.checker.proofs.Renumbering.{numbers_turn}
use Rattle.checker.proofs.index.restore.Goals as goal

pub loop-t-init : goal.loop-t-init
unfolding changed
loop-t-init c = refl

pub loop-t-preserved : goal.loop-t-preserved
loop-t-preserved c = numbers_turn entry_number_of c.loop-t.t c.args.index.now _ _ (omega arith) c.loop-t.invariant c.entry_number.ensures
