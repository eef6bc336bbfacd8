use Rattle.std.proofs.Common.{refl, sym, ◌∙◌, arith}
use Rattle.reader.proofs.LeafCode.{parts_left, parts_refused, parts_few, parts_done, whole_open, whole_wrong}
use Rattle.reader.proofs.Weighing.{by_whole}
use Rattle.reader.proofs.contents.judge_segments.Goals as goal

pub returns-then-indefinite : goal.returns-then-indefinite
returns-then-indefinite c =
    rw (sym c.in_segments.ensures ∙ c.if-not-in_segments.true) (whole_open c.requires.1 c.requires.5 _ c.args.left c.args.behind c.args.c.now c.if-indefinite.true)

pub returns-else-indefinite : goal.returns-else-indefinite
returns-else-indefinite c =
    let a = c.args in
    let z = c.if-indefinite.false in
    let i = sym c.in_segments.ensures ∙ c.if-not-in_segments.true in
    let n = sym (c.requires.6 z) ∙ by_whole _ a.lead a.c.now i in
    rw i (whole_wrong c.requires.1 c.requires.5 _ a.left a.behind a.c.now z n refl)

pub string_size-requires : goal.string_size-requires
string_size-requires c = omega (arith, c.requires.3, parts_few _ c.args.indefinite c.args.c.now c.read.ensures _ c.in-Ok.is)

pub overflow_add-result : goal.overflow_add-result
overflow_add-result c = omega (arith, c.requires.3, c.requires.4, parts_left _ c.args.indefinite c.args.c.now c.read.ensures _ c.in-Err.is)

pub returns-in-Ok : goal.returns-in-Ok
returns-in-Ok c =
    let i = sym c.in_segments.ensures ∙ c.if-not-in_segments.false in
    rw i (parts_done _ _ _ c.read.ensures _ c.eq.ensures _ _ c.args.left c.args.behind (c.requires.2 i) _ c.in-Ok.is c.string_size.ensures c.requires.3)

pub returns-in-Err : goal.returns-in-Err
returns-in-Err c =
    let i = sym c.in_segments.ensures ∙ c.if-not-in_segments.false in
    rw i (parts_refused _ _ _ c.read.ensures _ c.eq.ensures _ _ c.args.left c.args.behind (c.requires.2 i) _ c.in-Err.is)
