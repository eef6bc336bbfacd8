-- `cases::text::Line::push_decimal`: a digit more is stored, and the first one.
-- Assumes nothing.
use Rattle.std.proofs.Common.{◌≡◌, ℕ, zero, suc, ◌-◌, ◌+◌, ◌/◌, ◌<◌, ◌≤◌, ◌^◌, List, ◌++◌, take, drop, set, length, refl, ◌∙◌, arith}
use Rattle.std.proofs.lemmas.List.{append-nil, take_all, length-drop, length-set}
use native.Mathlib.Nat.{pow-suc}
use Rattle.std.specs.Fmt.{decimal as printed}
use Rattle.cases.specs.Output.{decimal}
use Rattle.cases.proofs.Digits.{decimal_same, digit_stored, first_stored}
use Rattle.cases.proofs.text.Line.push_decimal.Goals as goal

pub loop-rest-init : goal.loop-rest-init
loop-rest-init c =
    record { whole = append-nil _; room = omega (arith, c.ranges.n.fits); some = omega arith; most = omega arith; long = refl }

-- ten or more have two digits or more, and one less without the last
room_left : (k n : ℕ) → n < 10 ^ k → 10 ≤ n → (1 < k) × (n / 10 < 10 ^ (k - 1))
room_left zero n h l = absurd (omega arith)
room_left (suc zero) n h l = absurd (omega arith)
room_left (suc (suc k)) n h l = (omega arith, let e : suc (suc k) - 1 ≡ suc k = omega arith in rw e (omega (arith, pow-suc 10 (suc k))))

-- what stands from the first digit on
stored : (n rest at : ℕ) (d : List ℕ) → n < 2 ^ 64 → rest < 10 → 1 ≤ at → at ≤ 20 → length d ≡ 20 → printed rest ++ drop at d ≡ printed n
    → take (20 - (at - 1)) (drop (at - 1) (set d (at - 1) (48 + rest))) ≡ decimal n
stored n rest at d h l s m e w =
    let k : length (drop (at - 1) (set d (at - 1) (48 + rest))) ≤ 20 - (at - 1) = omega (arith, length-drop (at - 1) (set d (at - 1) (48 + rest)), length-set d (at - 1) (48 + rest)) in
    take_all _ _ k ∙ (first_stored rest at d s (omega arith) l ∙ (w ∙ decimal_same n h))

pub loop-rest-preserved : goal.loop-rest-preserved
loop-rest-preserved c =
    let i = c.loop-rest.invariant in
    let l : 10 ≤ c.loop-rest.rest = omega (arith, c.loop-rest-test.true) in
    let r = room_left c.loop-rest.at c.loop-rest.rest i.room l in record {
      whole =
          digit_stored c.loop-rest.rest c.loop-rest.at c.loop-rest.digits i.some (omega (arith, i.most, i.long)) l
          (omega (arith, c.loop-rest.auto.rest-fits))
          ∙ i.whole;
      room = r.1;
      some = omega (arith, r.0);
      most = omega (arith, i.most);
      long = length-set c.loop-rest.digits (c.loop-rest.at - 1) _ ∙ i.long;
    }

pub push-requires : goal.push-requires
push-requires c =
    let i = c.loop-rest.invariant in
    let l : c.loop-rest.rest < 10 = omega (arith, c.loop-rest-test.false) in
    rw (stored c.args.n c.loop-rest.rest c.loop-rest.at c.loop-rest.digits c.ranges.n.fits l i.some i.most i.long i.whole) c.requires

pub returns : goal.returns
returns c =
    let i = c.loop-rest.invariant in
    let l : c.loop-rest.rest < 10 = omega (arith, c.loop-rest-test.false) in
    rw (stored c.args.n c.loop-rest.rest c.loop-rest.at c.loop-rest.digits c.ranges.n.fits l i.some i.most i.long i.whole) at c.push.ensures
