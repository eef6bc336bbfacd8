use Rattle.std.proofs.Common.{rules}
use Rattle.octets.specs.Answer.{if}
use Rattle.reader.specs.Placing.{node_of}
use Rattle.reader.proofs.node.node_size.Goals as goal

pub returns-in-Sequence : goal.returns-in-Sequence
unfolding node_of if
returns-in-Sequence c = search rules

pub returns-in-SequenceOf : goal.returns-in-SequenceOf
unfolding node_of if
returns-in-SequenceOf c = search rules

pub returns-in-Choice : goal.returns-in-Choice
unfolding node_of if
returns-in-Choice c = search rules

pub returns-in_default : goal.returns-in_default
unfolding node_of if
returns-in_default c = search rules
