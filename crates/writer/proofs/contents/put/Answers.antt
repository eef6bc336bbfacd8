-- By the contents of the leaf of the kind.
-- Assumes nothing.
use Rattle.std.proofs.Common.{◌≡◌, arith, rules, length-set}
use mir.ValLaws.{to_z_pos}
use Rattle.coding.specs.Value.{time_number}
use Rattle.kinds.specs.Kinds.{octet_of}
use Rattle.writer.proofs.Leaves.{boolean_there, boolean_size, boolean_end_lem, encode_true, encode_false, integer_there, integer_end, encode_integer}
use Rattle.writer.proofs.Leaves.{bits_there, bits_long, bits_within, bits_end_lem, bits_put, string_within, string_end_lem, string_put, null_end, null_put}
use Rattle.writer.proofs.Leaves.{number_there, number_end, encode_number, time_left, time_there, time_ranged, time_end_lem, encode_time}
use Rattle.writer.proofs.contents.put.Goals as goal
use Rattle.writer.proofs.contents.put.Goals.{After-time, then-v-p-eq1, else-v-p-eq1}

pub bounds-v-p : goal.bounds-v-p
bounds-v-p c = search (rules, boolean_there)

pub bounds-buf-to : goal.bounds-buf-to
bounds-buf-to c = grind (arith, boolean_size)

pub returns-after-v-p-eq1 : goal.returns-after-v-p-eq1
returns-after-v-p-eq1 c =
    elim c.if-v-p-eq1.branch [ then-v-p-eq1 w ↦ search (rules, boolean_end_lem, encode_true) | else-v-p-eq1 w ↦ search (rules, boolean_end_lem, encode_false) ]

pub eight-requires : goal.eight-requires
eight-requires c = search (rules, integer_there)

pub put_integer-requires : goal.put_integer-requires
put_integer-requires c = search (rules, encode_integer)

pub returns-in-Integer : goal.returns-in-Integer
returns-in-Integer c = search (rules, integer_end, encode_integer)

pub two-count-requires : goal.two-count-requires
two-count-requires c = search (rules, bits_there)

pub overflow_sub-n : goal.overflow_sub-n
overflow_sub-n c = grind (arith, bits_long)

pub overflow_mul-buf : goal.overflow_mul-buf
overflow_mul-buf c = grind (arith, bits_long)

pub overflow_sub-buf : goal.overflow_sub-buf
overflow_sub-buf c = grind (arith, bits_long)

pub overflow_cast-buf : goal.overflow_cast-buf
overflow_cast-buf c = grind (arith, bits_long)

pub bounds-buf-to-in-BitString : goal.bounds-buf-to-in-BitString
bounds-buf-to-in-BitString c = grind (arith, bits_long)

pub put_part-requires : goal.put_part-requires
put_part-requires c = grind (arith, length-set, bits_long, bits_within)

pub returns-in-BitString : goal.returns-in-BitString
returns-in-BitString c = search (rules, bits_end_lem, bits_put)

pub put_part-requires-in-OctetString : goal.put_part-requires-in-OctetString
put_part-requires-in-OctetString c = search (rules, string_within)

pub returns-in-OctetString : goal.returns-in-OctetString
returns-in-OctetString c = search (rules, string_end_lem, string_put)

pub returns-in-Null : goal.returns-in-Null
returns-in-Null c = search (rules, null_end, null_put)

pub two-requires : goal.two-requires
two-requires c = search (rules, number_there)

pub put_integer-requires-in-Enumerated : goal.put_integer-requires-in-Enumerated
put_integer-requires-in-Enumerated c = search (rules, to_z_pos, encode_number)

pub returns-in-Enumerated : goal.returns-in-Enumerated
returns-in-Enumerated c = search (rules, to_z_pos, number_end, encode_number)

-- the kind is a time's
left : (c : After-time) → octet_of c.args.kind ≡ time_number c.time.result
left c = search (rules, time_left)

pub put_time-requires : goal.put_time-requires
put_time-requires c =
    let k = left (goal.at.put_time-requires c).After-time in search (rules, time_there, time_ranged, encode_time _ _ _ c.requires.2 _ k)

pub returns-in_default : goal.returns-in_default
returns-in_default c =
    let k = left (goal.at.returns-in_default c).After-time in search (rules, time_end_lem, c.put_time.ensures, encode_time _ _ _ c.requires.2 _ k)
