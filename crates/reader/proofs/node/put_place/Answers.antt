use Rattle.std.proofs.Common.{rules}
use Rattle.octets.specs.Answer.{if}
use Rattle.reader.specs.Placing.{noted_in}
use Rattle.reader.proofs.node.put_place.Goals as goal

pub returns-then-has_members : goal.returns-then-has_members
unfolding noted_in if
returns-then-has_members c = search rules

pub returns-then-eq : goal.returns-then-eq
unfolding noted_in if
returns-then-eq c = search rules

pub returns-else-eq : goal.returns-else-eq
unfolding noted_in if
returns-else-eq c = search rules
