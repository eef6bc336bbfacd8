-- `times::node::put`: the octets of a node, put one by one.
-- Assumes nothing.
use Rattle.std.proofs.Common.{refl, arith, ◌≤◌, length}
use Rattle.dates.specs.Own.{time_octets}
use Rattle.coding.specs.Value.{leaf_octets}
use Rattle.coding.proofs.Conversion.{put_refused, put_done, outcome_is}
use Rattle.times.proofs.Nodes.{node_put}
use Rattle.times.proofs.node.put.Goals as goal

pub returns-then-buf-lt-SIZE : goal.returns-then-buf-lt-SIZE
returns-then-buf-lt-SIZE c =
    let a = c.args in
    outcome_is (put_refused a.kind a.t a.buf.now (omega arith)) refl refl

pub returns : goal.returns
unfolding leaf_octets time_octets
returns c =
    let a = c.args in
    let room : 10 ≤ length a.buf.now = omega arith in
    outcome_is (put_done a.kind a.t a.buf.now room) refl (node_put a.kind a.t a.buf.now c.put.new.part c.number.result c.number.ensures room c.put.ensures)
