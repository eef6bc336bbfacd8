use Rattle.std.proofs.Common.{rules}
use Rattle.octets.specs.Answer.{if}
use Rattle.reader.specs.Placing.{finished_in}
use Rattle.reader.proofs.node.finish.Goals as goal

pub returns-then-has_members : goal.returns-then-has_members
unfolding finished_in if
returns-then-has_members c = search rules

pub returns-else-has_members : goal.returns-else-has_members
unfolding finished_in if
returns-else-has_members c = search rules
