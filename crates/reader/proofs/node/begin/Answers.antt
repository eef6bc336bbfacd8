use Rattle.std.proofs.Common.{rules}
use Rattle.octets.specs.Answer.{if}
use Rattle.reader.specs.Placing.{node_of, opening_of}
use Rattle.reader.proofs.node.begin.Goals as goal

pub returns-then-eq : goal.returns-then-eq
unfolding node_of opening_of if
returns-then-eq c = search rules

pub begin_node-requires : goal.begin_node-requires
unfolding opening_of if
begin_node-requires c = search rules

pub bounds-buf-to : goal.bounds-buf-to
unfolding opening_of if
bounds-buf-to c = search rules

pub returns : goal.returns
unfolding opening_of if
returns c = search rules
