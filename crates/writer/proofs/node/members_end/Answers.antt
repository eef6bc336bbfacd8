-- The presence of members is shaped where its octets are there, each below 2.
-- Assumes nothing.
use Rattle.std.proofs.Common.{arith, refl, ◌<◌, ◌+◌, get_or, length}
use mathlib.Core.Bool.{false≢true}
use Rattle.writer.proofs.Nodes.{members_short, members_shaped, members_shapeless, shaped_some}
use Rattle.writer.proofs.node.members_end.Goals as goal

pub returns-then-v-end : goal.returns-then-v-end
returns-then-v-end c =
    let a = c.args in
    let l : length a.v.now < a.p + 1 + get_or a.v.now a.p 0 = omega (arith, c.octet.ensures.0) in
    rw (members_short a.v.now a.p l) refl

pub returns-then-not-are_flags : goal.returns-then-not-are_flags
returns-then-not-are_flags c =
    let a = c.args in
    rw (members_shapeless a.v.now a.p c.octet.result c.octet.ensures.0 c.if-v-end.false (λ h. false≢true (c.if-not-are_flags.ensures.1 h))) refl

pub returns : goal.returns
returns c =
    let a = c.args in
    rw (members_shaped a.v.now a.p c.octet.result c.octet.ensures.0 c.if-v-end.false (c.if-not-are_flags.ensures.0 refl)) (shaped_some _ (omega arith))
