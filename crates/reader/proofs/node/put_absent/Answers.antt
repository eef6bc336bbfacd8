use Rattle.reader.proofs.NodeStores.{absent_turn}
use Rattle.reader.proofs.node.put_absent.Goals as goal

pub loop-i-preserved : goal.loop-i-preserved
loop-i-preserved c = absent_turn _ _ _ _ c.loop-i-test.true c.loop-i.invariant
