use Rattle.std.proofs.Common.{rules, arith}
use Rattle.reader.specs.Placing.{way_octets}
use Rattle.reader.proofs.NodeStores.{way_step}
use Rattle.reader.proofs.node.put_way.Goals as goal

pub loop-x-init : goal.loop-x-init
unfolding way_octets
loop-x-init c = search rules

pub loop-x-preserved : goal.loop-x-preserved
loop-x-preserved c = let v = c.loop-x.invariant in record {
  next = omega arith;
  buffer = way_step _ _ _ _ _ c.loop-x-test.true v.next v.buffer c.begin_node.ensures;
}
