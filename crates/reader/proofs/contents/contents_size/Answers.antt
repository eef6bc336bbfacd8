use Rattle.std.proofs.Common.{refl, sym, ap, ◌∙◌, not, w64}
use Rattle.std.proofs.lemmas.Int.{to_z-of_z}
use Rattle.reader.proofs.Weighing.{boolean_size, integer_size, bits_size, string_size, null_size, number_size, lists_all, time_size, other_size}
use Rattle.reader.proofs.contents.contents_size.Goals as goal
use Rattle.reader.proofs.contents.contents_size.Goals.{then-not-in_segments, else-not-in_segments, then-is_integer, else-is_integer}

pub returns-in-Boolean : goal.returns-in-Boolean
returns-in-Boolean c = rw c.in-Boolean.is (boolean_size _ _ _ _ c.then_some.ensures)

pub returns-in-Integer : goal.returns-in-Integer
returns-in-Integer c = rw c.in-Integer.is (integer_size _ _ _ _ c.then_some-in-Integer.ensures c.is_integer.ensures)

pub returns-after-not-in_segments : goal.returns-after-not-in_segments
returns-after-not-in_segments c =
    rw c.in-BitString.is (bits_size _ _ _ _ c.requires.2 c.then_some-in-BitString.ensures c.in_segments.ensures (elim c.if-not-in_segments.branch [
      | then-not-in_segments w ↦ rw w.if-not-in_segments.true (w.then_some-is ∙ w.are_bits.ensures)
      | else-not-in_segments w ↦ rw w.if-not-in_segments.false (w.then_some-is ∙ ap not w.if-not-in_segments.false)
    ]))

pub returns-in-OctetString : goal.returns-in-OctetString
returns-in-OctetString c =
    rw c.in-OctetString.is (string_size _ _ _ _ c.requires.2 c.then_some-in-OctetString.ensures c.in_segments-in-OctetString.ensures)

pub returns-in-Null : goal.returns-in-Null
returns-in-Null c = rw c.in-Null.is (null_size _ _ _ _ c.then_some-in-Null.ensures)

pub returns-after-is_integer : goal.returns-after-is_integer
returns-after-is_integer c =
    let f = c.is_integer-in-Enumerated.ensures in
    rw c.in-Enumerated.is (number_size _ _ _ _ c.then_some-in-Enumerated.ensures f (elim c.if-is_integer.branch [
      | then-is_integer w ↦
          let i = to_z-of_z w64 _ (record { sfits = w.of.type_inv }) ∙ w.of.ensures in
          let t = w.if-is_integer.true in
          rw t (w.then_some-is ∙ lists_all c.requires.1 c.in-Enumerated.is c.args.c.now (sym f ∙ t) _ i w.lists.ensures)
      | else-is_integer w ↦ rw w.if-is_integer.false (w.then_some-is ∙ w.if-is_integer.false)
    ]))

pub returns-in-UtcTime : goal.returns-in-UtcTime
returns-in-UtcTime c = time_size _ _ _ _ c.in-UtcTime.is c.time.ensures c.is_time.ensures c.then_some-in-UtcTime.ensures

pub returns-in_default : goal.returns-in_default
returns-in_default c =
    let n = c.in_default in
    other_size _ _ _ _ _ n.not-Boolean n.not-Integer n.not-BitString n.not-OctetString n.not-Null n.not-Enumerated n.not-UtcTime n.not-GeneralizedTime refl
