-- `times::node::given`: alone, of its kind, and then what its octets say.
-- Assumes nothing.
use Rattle.std.proofs.Common.{◌-◌, length, get_or, drop, length-drop, sym, ap, ◌∙◌, refl, arith}
use lib.Seq.{take_all}
use borrow.Author.Tests.{eq-eqb, ne_eqb}
use Rattle.coding.specs.Value.{time_number}
use Rattle.coding.proofs.Reckoning.{lone_some, given_shape, given_type, given_time}
use Rattle.times.specs.Alone.{at_start}
use Rattle.times.proofs.node.given.Goals as goal

pub returns-then-not-is_lone : goal.returns-then-not-is_lone
returns-then-not-is_lone c = ap at_start (given_shape c.args.kind c.args.s.now (sym c.is_lone.ensures ∙ c.if-not-is_lone.true))

pub bounds-s-2 : goal.bounds-s-2
bounds-s-2 c = omega (arith, lone_some c.args.s.now (sym c.is_lone.ensures ∙ c.if-not-is_lone.false))

pub returns-then-s-number : goal.returns-then-s-number
returns-then-s-number c =
    let a = c.args in
    let alone = sym c.is_lone.ensures ∙ c.if-not-is_lone.false in
    ap at_start (given_type a.kind a.s.now alone (ne_eqb (get_or a.s.now 2 0) (time_number a.kind) λ e. c.if-s-number.true (rw (e, c.number.ensures) refl)))

pub returns : goal.returns
returns c =
    let a = c.args in
    let alone = sym c.is_lone.ensures ∙ c.if-not-is_lone.false in
    rw (c.of.ensures, take_all (length a.s.now - 3) (drop 3 a.s.now) (omega (arith, length-drop 3 a.s.now))) (ap at_start (given_time a.kind a.s.now alone (eq-eqb _ _ (c.if-s-number.false ∙ c.number.ensures))))
