-- How many octets an integer has in its fewest: by its number, or by that of the complement if it is negative.
-- Assumes nothing.
use mathlib.Core.Bool.{Bool, true, false, not, false≢true}
use mathlib.Core.List.{List, [], ◌∷◌}
use mathlib.Core.Path.{◌≡◌, refl, sym, ◌∙◌}
use Prim.Native.Nat.{ℕ, zero, suc, ◌+◌, ◌-◌, ◌*◌, ◌^◌, ◌≤◌, ◌<◌}
use native.Mathlib.Nat.{zero-add, add-zero, pow-suc, pow-le-pow_right}
use native.Mathlib.Omega.{arith}
use borrow.Author.Tests.{ltb-true, ltb-false, eqb-true, eqb-false, not-true, not-false}
use lib.Dec.{ltb, eqb}
use lib.IntN.{ℤ}
use lib.ListN.{length}
use lib.Signed.{mag}
use mir.Syntax.{w64}
use mir.Val.{SFits, to_z, of_z}
use mir.Facts.{Fits-of_z}
use mir.ValLaws.{to_z-of_z}
use Rattle.octets.specs.Permutations.{AllOctets, every_cons}
use Rattle.octets.proofs.Tests.{test}
use Rattle.x690.specs.Integer.{negative, digit, pile, signed, integer_of, spare, minimal, fewest_of}
use Rattle.x690.proofs.Integers.{pile_below, spare_zero, spare_ones, fewest_written, fewest_octets}
use Rattle.simple.proofs.LastOctets.{eight_octets}

-- m needs suc j octets
record Sized (m j : ℕ) : Type 0 where
  most : m < 128 * 256 ^ j
  least : (i : ℕ) → i < j → 128 * 256 ^ i ≤ m

sized_one : (m j k : ℕ) → Sized m j → Sized m k → j ≡ k
sized_one m j k a b =
    test (ltb j k) (λ e. absurd (omega (arith, a.most, b.least j (ltb-true j k e)))) λ e.
    test (ltb k j) (λ f. absurd (omega (arith, b.most, a.least k (ltb-true k j f)))) λ f.
    omega (arith, ltb-false j k e, ltb-false k j f)

least_from : (j m : ℕ) → 128 * 256 ^ j ≤ m → (i : ℕ) → i < suc j → 128 * 256 ^ i ≤ m
least_from j m h i l = omega (arith, pow-le-pow_right {n = 256} (omega arith) {i = i} {j = j} (omega arith))

least_below : (j m : ℕ) → 128 * 256 ^ j ≤ 256 * m + 128 → (i : ℕ) → i < j → 128 * 256 ^ i ≤ m
least_below zero m h i l = absurd (omega arith)
least_below (suc j) m h i l = least_from j m (let g = rw pow-suc at h in omega arith) i l

-- the number of octets, or that of their complements
pile_least : (neg : Bool) (k acc : ℕ) (s : List ℕ) → 128 * 256 ^ k ≤ acc → 128 * 256 ^ (k + length s) ≤ pile neg acc s
unfolding pile
pile_least neg k acc [] h = rw add-zero h
pile_least neg k acc (b ∷ s) h =
    let g : 128 * 256 ^ suc k ≤ acc * 256 + digit neg b = rw pow-suc (omega arith) in
    let e : suc k + length s ≡ k + suc (length s) = omega arith in
    rw (← e) (pile_least neg (suc k) (acc * 256 + digit neg b) s g)

-- a first octet that is not spare, with the next
two_digits_lem : (a b : ℕ) → a < 256 → b < 256 → spare a b ≡ false → (neg : Bool) → not (ltb a 128) ≡ neg → 128 ≤ digit neg a * 256 + digit neg b
two_digits_lem a b h k e false n =
    test (eqb a 0) (λ z. omega (arith, ltb-false b 128 (spare_zero a b (eqb-true a 0 z) ∙ e)))
    (λ z. let w : (a ≡ 0 → ⊥) = eqb-false a 0 z in omega arith)
two_digits_lem a b h k e true n =
    test (eqb a 255) (λ z. omega (arith, ltb-true b 128 (not-false _ (spare_ones a b (eqb-true a 255 z) ∙ e))))
    (λ z. let w : (a ≡ 255 → ⊥) = eqb-false a 255 z in omega arith)

mag_signed : (neg : Bool) (n : ℕ) → mag (signed neg n) ≡ n
mag_signed true n = refl
mag_signed false n = refl

pile_sized : (c : List ℕ) → AllOctets c → minimal c ≡ true → 0 < length c → Sized (pile (negative c) 0 c) (length c - 1)
unfolding minimal negative pile
pile_sized [] o e h = absurd (omega arith)
pile_sized (b ∷ []) (every_cons g o) e h = record { most = pile_below b [] o; least = λ i l. absurd (omega arith) }
pile_sized (a ∷ b ∷ s) (every_cons g (every_cons k o)) e h =
    let neg = not (ltb a 128) in
    let z : 0 * 256 + digit neg a ≡ digit neg a = zero-add (digit neg a) in
    let n : length (a ∷ b ∷ s) - 1 ≡ suc (length s) = omega arith in
    let m : 0 + length s ≡ length s = zero-add (length s) in
    let d = digit neg a * 256 + digit neg b in
    let l : 128 * 256 ^ length s ≤ pile neg d s = rw m at (pile_least neg 0 d s (two_digits_lem a b g k (not-true _ e) neg refl)) in
    rw n (record { most = pile_below a (b ∷ s) (every_cons k o); least = rw z (least_from (length s) _ l) })

integer_sized : (c : List ℕ) → AllOctets c → minimal c ≡ true → 0 < length c → Sized (mag (integer_of c)) (length c - 1)
unfolding integer_of
integer_sized c o e h = rw (mag_signed (negative c) (pile (negative c) 0 c)) (pile_sized c o e h)

minimal_some : (c : List ℕ) → minimal c ≡ true → 0 < length c
unfolding minimal
minimal_some [] e = absurd (false≢true e)
minimal_some (a ∷ s) e = omega arith

fewest_sized : (z : ℤ) (j : ℕ) → SFits w64 z → Sized (mag z) j → length (fewest_of z) ≡ suc j
fewest_sized z j f a =
    let w = fewest_written z f in
    let o : AllOctets (fewest_of z) = fewest_octets (eight_octets (of_z w64 z) (Fits-of_z {w = w64} {z = z} f).fits) in
    let h : 0 < length (fewest_of z) = minimal_some (fewest_of z) w.is_minimal in
    let b : Sized (mag z) (length (fewest_of z) - 1) = rw w.back at (integer_sized (fewest_of z) o w.is_minimal h) in
    omega (arith, sized_one (mag z) _ j b a)

-- by bounds of the number, n, which is counted from the bits
pub size_is : (j : ℕ) {n : ℕ} (z : ℤ) → SFits w64 z → n ≡ mag (to_z w64 (of_z w64 z)) → j < 8 → n < 128 * 256 ^ j → 128 * 256 ^ j ≤ 256 * n + 128
    → (suc j ≡ length (fewest_of z)) × (1 ≤ suc j) × (suc j ≤ 8)
size_is j {n} z f e few below above =
    let h : n ≡ mag z = rw (to_z-of_z w64 z f) at e in
    (sym (fewest_sized z j f (record { most = rw (← h) below; least = rw (← h) (least_below j n above) })), omega arith, omega arith)
