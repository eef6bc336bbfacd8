use Rattle.std.proofs.Common.{refl, ap, arith, length, get_or, drop}
use Rattle.x690.specs.Integer.{eight}
use Rattle.x690.proofs.BitString.{length_masked}
use Rattle.dates.specs.Own.{time_octets}
use Rattle.kinds.specs.Kinds.{octet_of}
use Rattle.reader.specs.Leaves.{leaf_of}
use Rattle.reader.proofs.LeafKinds.{leaf_three, right, leaf_is, time_left, leaf_placed}
use Rattle.reader.proofs.contents.place_contents.Goals as goal

pub begin_node-requires : goal.begin_node-requires
begin_node-requires c = omega (arith, leaf_three (leaf_of (octet_of c.args.kind) c.args.c.now))

pub put_flag-requires : goal.put_flag-requires
put_flag-requires c =
    let e = c.in-Boolean.is in
    (right e c.requires.0, omega (arith, ap length (leaf_is e c.requires.0), c.begin_node.auto.buf))

pub returns-in-Boolean : goal.returns-in-Boolean
returns-in-Boolean c =
    leaf_placed (leaf_is c.in-Boolean.is c.requires.0) c.args.buf.now _ c.begin_node.ensures c.put_flag.ensures

pub put_integer-requires : goal.put_integer-requires
unfolding eight
put_integer-requires c =
    let e = c.in-Integer.is in
    let h = right e c.requires.0 in
    (h.0, h.1, omega (arith, ap length (leaf_is e c.requires.0), c.begin_node.auto.buf))

pub returns-in-Integer : goal.returns-in-Integer
unfolding eight
returns-in-Integer c =
    leaf_placed (leaf_is c.in-Integer.is c.requires.0) c.args.buf.now _ c.begin_node.ensures c.put_integer.ensures

pub put_bits-requires : goal.put_bits-requires
put_bits-requires c =
    let e = c.in-BitString.is in
    let h = right e c.requires.0 in
    let m = length_masked (get_or c.args.c.now 0 0) (drop 1 c.args.c.now) in
    (h.0, c.requires.1, h.1, h.2, omega (arith, ap length (leaf_is e c.requires.0), c.begin_node.auto.buf))

pub returns-in-BitString : goal.returns-in-BitString
returns-in-BitString c =
    let m = length_masked (get_or c.args.c.now 0 0) (drop 1 c.args.c.now) in
    leaf_placed (leaf_is c.in-BitString.is c.requires.0) c.args.buf.now _ c.begin_node.ensures
    (omega (arith, c.put_bits.ensures.0), c.put_bits.ensures.1)

pub put_string-requires : goal.put_string-requires
put_string-requires c =
    (c.requires.1, omega (arith, ap length (leaf_is c.in-OctetString.is c.requires.0), c.begin_node.auto.buf))

pub returns-in-OctetString : goal.returns-in-OctetString
returns-in-OctetString c =
    leaf_placed (leaf_is c.in-OctetString.is c.requires.0) c.args.buf.now _ c.begin_node.ensures
    (omega (arith, c.put_string.ensures.0), c.put_string.ensures.1)

pub returns-in-Null : goal.returns-in-Null
returns-in-Null c =
    leaf_placed (leaf_is c.in-Null.is c.requires.0) c.args.buf.now _ c.begin_node.ensures (omega arith, refl)

pub put_enumerated-requires : goal.put_enumerated-requires
put_enumerated-requires c =
    let e = c.in-Enumerated.is in
    let h = right e c.requires.0 in
    (h.some_octet, h.eight_octets, omega (arith, ap length (leaf_is e c.requires.0), c.begin_node.auto.buf), h.is, h.small)

pub returns-in-Enumerated : goal.returns-in-Enumerated
returns-in-Enumerated c =
    leaf_placed (leaf_is c.in-Enumerated.is c.requires.0) c.args.buf.now _ c.begin_node.ensures c.put_enumerated.ensures

pub put_time-requires : goal.put_time-requires
unfolding time_octets
put_time-requires c =
    let n = c.in_default in
    let (t, o) = time_left _ c.requires.0 n.not-Boolean n.not-Integer n.not-BitString n.not-OctetString n.not-Null n.not-Enumerated c.time.ensures in
    (t, omega (arith, ap length o, c.begin_node.auto.buf))

pub returns-in_default : goal.returns-in_default
unfolding time_octets
returns-in_default c =
    let n = c.in_default in
    let (t, o) = time_left _ c.requires.0 n.not-Boolean n.not-Integer n.not-BitString n.not-OctetString n.not-Null n.not-Enumerated c.time.ensures in
    leaf_placed o c.args.buf.now _ c.begin_node.ensures c.put_time.ensures
