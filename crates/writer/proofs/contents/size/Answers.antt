-- By the contents of the leaf of the kind.
-- Assumes nothing.
use Rattle.std.proofs.Common.{arith, rules}
use Rattle.writer.proofs.Leaves.{boolean_size, integer_there, encode_integer, bits_there, bits_long, string_there, string_size, null_size, number_there}
use Rattle.writer.proofs.Leaves.{encode_number, time_left, time_size_lem}
use Rattle.writer.proofs.contents.size.Goals as goal

pub eight-requires : goal.eight-requires
eight-requires c = search (rules, integer_there)

pub two-requires : goal.two-requires
two-requires c = search (rules, bits_there)

pub two-requires-in-OctetString : goal.two-requires-in-OctetString
two-requires-in-OctetString c = search (rules, string_there)

pub two-requires-in-Enumerated : goal.two-requires-in-Enumerated
two-requires-in-Enumerated c = search (rules, number_there)

pub returns-in-Boolean : goal.returns-in-Boolean
returns-in-Boolean c = search (rules, boolean_size)

pub returns-in-Integer : goal.returns-in-Integer
returns-in-Integer c = search (rules, encode_integer)

pub returns-in-BitString : goal.returns-in-BitString
returns-in-BitString c = grind (arith, bits_long)

pub returns-in-OctetString : goal.returns-in-OctetString
returns-in-OctetString c = search (rules, string_size)

pub returns-in-Null : goal.returns-in-Null
returns-in-Null c = search (rules, null_size)

pub returns-in-Enumerated : goal.returns-in-Enumerated
returns-in-Enumerated c = search (rules, encode_number)

pub returns-in_default : goal.returns-in_default
returns-in_default c = time_size_lem _ _ _ c.requires.2 _ (search (rules, time_left)) _ c.size-in_default.ensures
