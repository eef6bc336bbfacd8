-- Laws of two's complement: what is written of an integer of 64 bits is read back as it.
-- Assumes nothing.
use borrow.Author.Tests.{ltb-true, ltb-false, eqb-true, not-false}
use mathlib.Core.Path.{◌≡◌, refl, sym, ap, ◌∙◌}
use mathlib.Core.Bool.{Bool, true, false, not, ◌&&◌, ◌||◌, true≢false}
use mathlib.Core.List.{List, [], ◌∷◌}
use mathlib.Core.Logic.{◌⊎◌, inl, inr, ⊎_elim}
use native.Mathlib.Nat.{zero-add, add-zero, pow-suc, pow-le-pow_right}
use native.Mathlib.Omega.{arith}
use Prim.Native.Nat.{ℕ, suc, ◌+◌, ◌-◌, ◌*◌, ◌/◌, ◌%◌, ◌^◌, ◌≤◌, ◌<◌}
use lib.Dec.{ltb, eqb}
use lib.IntN.{ℤ, pos, negsuc}
use lib.ListN.{length}
use mir.Syntax.{w64}
use mir.Val.{SFits, to_z, of_z}
use mir.Facts.{Fits-of_z}
use mir.ValLaws.{to_z_pos, to_z-neg, to_z-of_z, of_z-to_z}
use Rattle.octets.specs.Permutations.{AllOctets, every_nil, every_cons}
use Rattle.octets.proofs.Answer.{if_cases}
use Rattle.octets.proofs.Tests.{test}
use Rattle.x690.specs.Integer.{negative, digit, pile, signed, integer_of, spare, minimal, eight, eight_of, fewest, fewest_of}

-- 8.3.2: 127 needs no 00 in front of it, and 128 does; -128 needs no FF, and -129 does
spare_127 : minimal (0x00 ∷ 0x7F ∷ []) ≡ false
unfolding spare minimal
spare_127 = refl

needed_128 : minimal (0x00 ∷ 0x80 ∷ []) ≡ true
unfolding spare minimal
needed_128 = refl

spare_minus_128 : minimal (0xFF ∷ 0x80 ∷ []) ≡ false
unfolding spare minimal
spare_minus_128 = refl

needed_minus_129 : minimal (0xFF ∷ 0x7F ∷ []) ≡ true
unfolding spare minimal
needed_minus_129 = refl

-- the eight octets read back
pub spelt : (u : ℕ) → u < 18446744073709551616 → pile false 0 (eight u) ≡ u
unfolding pile eight
spelt u h =
    let s1 : u / 72057594037927936 * 256 + u / 281474976710656 % 256 ≡ u / 281474976710656 = omega arith in
    let s2 : u / 281474976710656 * 256 + u / 1099511627776 % 256 ≡ u / 1099511627776 = omega arith in
    let s3 : u / 1099511627776 * 256 + u / 4294967296 % 256 ≡ u / 4294967296 = omega arith in
    let s4 : u / 4294967296 * 256 + u / 16777216 % 256 ≡ u / 16777216 = omega arith in
    let s5 : u / 16777216 * 256 + u / 65536 % 256 ≡ u / 65536 = omega arith in
    let s6 : u / 65536 * 256 + u / 256 % 256 ≡ u / 256 = omega arith in
    let s7 : u / 256 * 256 + u % 256 ≡ u = omega arith in
    rw (zero-add, s1, s2, s3, s4, s5, s6, s7)

flip : (m q r : ℕ) → q ≤ m → r / 256 ≡ q → (m - q) * 256 + (255 - r % 256) ≡ m * 256 + 255 - r
flip m q r le e = omega arith

spelt_neg : (u : ℕ) → u < 18446744073709551616 → pile true 0 (eight u) ≡ 18446744073709551615 - u
unfolding pile eight
spelt_neg u h =
    rw (
      zero-add,
      flip 255 (u / 72057594037927936) (u / 281474976710656) (omega arith) (omega arith),
      flip 65535 (u / 281474976710656) (u / 1099511627776) (omega arith) (omega arith),
      flip 16777215 (u / 1099511627776) (u / 4294967296) (omega arith) (omega arith),
      flip 4294967295 (u / 4294967296) (u / 16777216) (omega arith) (omega arith),
      flip 1099511627775 (u / 16777216) (u / 65536) (omega arith) (omega arith),
      flip 281474976710655 (u / 65536) (u / 256) (omega arith) (omega arith),
      flip 72057594037927935 (u / 256) u (omega arith) (omega arith),
    )

top : (u : ℕ) → u < 18446744073709551616 → (t : Bool) → ltb (u / 72057594037927936) 128 ≡ t → signed (not t) (pile (not t) 0 (eight u)) ≡ to_z w64 u
top u h true e = ap pos (spelt u h) ∙ sym (to_z_pos w64 u (omega (arith, ltb-true (u / 72057594037927936) 128 e)))
top u h false e =
    let k : u ≡ 18446744073709551616 - suc (18446744073709551615 - u) = omega arith in
    ap negsuc (spelt_neg u h)
    ∙ sym (to_z-neg w64 (18446744073709551615 - u) (omega (arith, ltb-false (u / 72057594037927936) 128 e)))
    ∙ ap (to_z w64) (sym k)

pub read_eight : (u : ℕ) → u < 18446744073709551616 → integer_of (eight u) ≡ to_z w64 u
unfolding integer_of negative eight
read_eight u h = top u h (ltb (u / 72057594037927936) 128) refl

-- the eight octets of an integer are read back as it
pub eight_back : (z : ℤ) → SFits w64 z → integer_of (eight_of z) ≡ z
eight_back z f = read_eight (of_z w64 z) (Fits-of_z {w = w64} {z = z} f).fits ∙ to_z-of_z w64 z f

-- an octet in front that only repeats the sign says nothing
spare_pos : (b : ℕ) (s : List ℕ) → ltb b 128 ≡ true → integer_of (0 ∷ b ∷ s) ≡ integer_of (b ∷ s)
unfolding integer_of negative pile
spare_pos b s h = sym (ap (λ (t : Bool). signed (not t) (pile (not t) (0 * 256 + digit (not t) b) s)) h)

spare_neg : (b : ℕ) (s : List ℕ) → ltb b 128 ≡ false → integer_of (255 ∷ b ∷ s) ≡ integer_of (b ∷ s)
unfolding integer_of negative pile
spare_neg b s h = sym (ap (λ (t : Bool). signed (not t) (pile (not t) (0 * 256 + digit (not t) b) s)) h)

spare_says : (p q t : Bool) → ((p && t) || (q && not t)) ≡ true → ((p ≡ true) × (t ≡ true)) ⊎ ((q ≡ true) × (t ≡ false))
spare_says true q true e = inl (refl, refl)
spare_says true true false e = inr (refl, refl)
spare_says true false false e = absurd (true≢false (sym e))
spare_says false true true e = absurd (true≢false (sym e))
spare_says false true false e = inr (refl, refl)
spare_says false false true e = absurd (true≢false (sym e))
spare_says false false false e = absurd (true≢false (sym e))

-- the test for such an octet
pub spare_zero : (a b : ℕ) → a ≡ 0 → ltb b 128 ≡ spare a b
unfolding spare
spare_zero a b e = test (ltb b 128) (λ h. rw (e, h)) λ h. rw (e, h)

pub spare_ones : (a b : ℕ) → a ≡ 255 → not (ltb b 128) ≡ spare a b
unfolding spare
spare_ones a b e = rw e

spare_same : (a b : ℕ) (s : List ℕ) → not (spare a b) ≡ false → integer_of (a ∷ b ∷ s) ≡ integer_of (b ∷ s)
unfolding spare
spare_same a b s e =
    ⊎_elim (λ w. rw (eqb-true a 0 w.0) (spare_pos b s w.1)) (λ w. rw (eqb-true a 255 w.0) (spare_neg b s w.1))
    (spare_says (eqb a 0) (eqb a 255) (ltb b 128) (not-false _ e))

pub fewest_same : (s : List ℕ) → integer_of (fewest s) ≡ integer_of s
unfolding fewest minimal
fewest_same [] = refl
fewest_same (a ∷ []) = if_cases (λ (x : List ℕ). integer_of x ≡ integer_of (a ∷ [])) true (a ∷ []) (λ _. fewest []) (λ e. refl) (λ e. absurd (true≢false e))
fewest_same (a ∷ b ∷ s) =
    if_cases (λ (x : List ℕ). integer_of x ≡ integer_of (a ∷ b ∷ s)) (not (spare a b)) (a ∷ b ∷ s) (λ _. fewest (b ∷ s)) (λ e. refl)
    (λ e. fewest_same (b ∷ s) ∙ sym (spare_same a b s e))

pub fewest_length : (s : List ℕ) → length (fewest s) ≤ length s
unfolding fewest
fewest_length [] = omega arith
fewest_length (a ∷ s) =
    if_cases (λ (x : List ℕ). length x ≤ suc (length s)) (minimal (a ∷ s)) (a ∷ s) (λ _. fewest s) (λ e. omega arith)
    (λ e. let h = fewest_length s in omega arith)

pub fewest_minimal : (s : List ℕ) → 0 < length s → minimal (fewest s) ≡ true
unfolding fewest minimal
fewest_minimal [] h = absurd (omega arith)
fewest_minimal (a ∷ []) h = if_cases (λ x. minimal x ≡ true) true (a ∷ []) (λ _. fewest []) (λ e. refl) (λ e. absurd (true≢false e))
fewest_minimal (a ∷ b ∷ s) h =
    if_cases (λ x. minimal x ≡ true) (not (spare a b)) (a ∷ b ∷ s) (λ _. fewest (b ∷ s)) (λ e. e) (λ e. fewest_minimal (b ∷ s) (omega arith))

-- the writer's contents: minimal, at most eight octets, the same integer
pub record Written (z : ℤ) (c : List ℕ) : Type 0 where
  pub is_minimal : minimal c ≡ true
  pub few : length c ≤ 8
  pub back : integer_of c ≡ z

pub fewest_written : (z : ℤ) → SFits w64 z → Written z (fewest_of z)
unfolding eight
fewest_written z f =
    record { is_minimal = fewest_minimal (eight_of z) (omega arith); few = fewest_length (eight_of z); back = fewest_same (eight_of z) ∙ eight_back z f }

-- one octet more
pub grow : (k acc d : ℕ) → acc < 128 * 256 ^ k → d < 256 → acc * 256 + d < 128 * 256 ^ suc k
grow k acc d h g = rw pow-suc (omega arith)

digit_octet : (neg : Bool) (b : ℕ) → b < 256 → digit neg b < 256
digit_octet true b h = omega arith
digit_octet false b h = h

pile_bound : (neg : Bool) (k acc : ℕ) (s : List ℕ) → AllOctets s → acc < 128 * 256 ^ k → pile neg acc s < 128 * 256 ^ (k + length s)
unfolding pile
pile_bound neg k acc [] o h = rw add-zero h
pile_bound neg k acc (b ∷ s) (every_cons g o) h =
    let x = pile_bound neg (suc k) (acc * 256 + digit neg b) s o (grow k acc (digit neg b) h (digit_octet neg b g)) in
    let e : suc k + length s ≡ k + suc (length s) = omega arith in
    rw (← e) x

pub head_small : (b : ℕ) (neg : Bool) → not (ltb b 128) ≡ neg → digit neg b < 128
head_small b neg e = side (ltb b 128) refl neg e
  where
    side : (t : Bool) → ltb b 128 ≡ t → (n : Bool) → not t ≡ n → digit n b < 128
    side true f true g = absurd (true≢false (sym g))
    side true f false g = ltb-true b 128 f
    side false f true g = let h : 128 ≤ b = ltb-false b 128 f in omega arith
    side false f false g = absurd (true≢false g)

pub within : (k acc : ℕ) → k ≤ 7 → acc < 128 * 256 ^ k → acc < 9223372036854775808
within k acc le h = omega (arith, pow-le-pow_right {n = 256} (omega arith) {i = k} {j = 7} le)

signed_fits : (neg : Bool) (n : ℕ) → n < 9223372036854775808 → SFits w64 (signed neg n)
signed_fits true n h = record { sfits = h }
signed_fits false n h = record { sfits = h }

-- the number of some octets, or that of their complements, has a first bit 0
pub pile_below : (b : ℕ) (s : List ℕ) → AllOctets s → pile (negative (b ∷ s)) 0 (b ∷ s) < 128 * 256 ^ length s
unfolding negative pile
pile_below b s o =
    let neg = not (ltb b 128) in
    let e : 0 * 256 + digit neg b ≡ digit neg b = zero-add (digit neg b) in
    let f : 0 + length s ≡ length s = zero-add (length s) in
    let lt : digit neg b < 128 * 256 ^ 0 = head_small b neg refl in
    rw e (rw f at (pile_bound neg 0 (digit neg b) s o lt))

-- at most eight octets are an integer of 64 bits
pub integer_fits : (c : List ℕ) → AllOctets c → length c ≤ 8 → SFits w64 (integer_of c)
unfolding integer_of negative pile
integer_fits [] o h = record { sfits = omega arith }
integer_fits (b ∷ s) (every_cons g o) h =
    signed_fits (negative (b ∷ s)) (pile (negative (b ∷ s)) 0 (b ∷ s)) (within (length s) _ (omega arith) (pile_below b s o))

s1 : (x d : ℕ) → d < 256 → (x * 256 + d) / 256 ≡ x
s1 x d h = omega arith

s2 : (x d : ℕ) → d < 256 → (x * 256 + d) / 65536 ≡ x / 256
s2 x d h = omega arith

s3 : (x d : ℕ) → d < 256 → (x * 256 + d) / 16777216 ≡ x / 65536
s3 x d h = omega arith

s4 : (x d : ℕ) → d < 256 → (x * 256 + d) / 4294967296 ≡ x / 16777216
s4 x d h = omega arith

s5 : (x d : ℕ) → d < 256 → (x * 256 + d) / 1099511627776 ≡ x / 4294967296
s5 x d h = omega arith

s6 : (x d : ℕ) → d < 256 → (x * 256 + d) / 281474976710656 ≡ x / 1099511627776
s6 x d h = omega arith

s7 : (x d : ℕ) → d < 256 → (x * 256 + d) / 72057594037927936 ≡ x / 281474976710656
s7 x d h = omega arith

s0 : (x d : ℕ) → d < 256 → (x * 256 + d) % 256 ≡ d
s0 x d h = omega arith

eight_of_lem : (a b c d e f g h : ℕ) → b < 256 → c < 256 → d < 256 → e < 256 → f < 256 → g < 256 → h < 256
    → eight (((((((a * 256 + b) * 256 + c) * 256 + d) * 256 + e) * 256 + f) * 256 + g) * 256 + h) ≡ a ∷ b ∷ c ∷ d ∷ e ∷ f ∷ g ∷ h ∷ []
unfolding eight
eight_of_lem a b c d e f g h hb hc hd he hf hg hh = simp (s0, s1, s2, s3, s4, s5, s6, s7)

pile_eight : (a b c d e f g h : ℕ) → a < 256 → b < 256 → c < 256 → d < 256 → e < 256 → f < 256 → g < 256 → h < 256
    → ((((((a * 256 + b) * 256 + c) * 256 + d) * 256 + e) * 256 + f) * 256 + g) * 256 + h < 18446744073709551616
pile_eight a b c d e f g h ha hb hc hd he hf hg hh = omega arith

-- eight octets are those of the integer that they are read as
pub eight_same : (s : List ℕ) → AllOctets s → length s ≡ 8 → eight_of (integer_of s) ≡ s
eight_same [] o l = absurd (omega arith)
eight_same (a ∷ []) o l = absurd (omega arith)
eight_same (a ∷ b ∷ []) o l = absurd (omega arith)
eight_same (a ∷ b ∷ c ∷ []) o l = absurd (omega arith)
eight_same (a ∷ b ∷ c ∷ d ∷ []) o l = absurd (omega arith)
eight_same (a ∷ b ∷ c ∷ d ∷ e ∷ []) o l = absurd (omega arith)
eight_same (a ∷ b ∷ c ∷ d ∷ e ∷ f ∷ []) o l = absurd (omega arith)
eight_same (a ∷ b ∷ c ∷ d ∷ e ∷ f ∷ g ∷ []) o l = absurd (omega arith)
eight_same (a ∷ b ∷ c ∷ d ∷ e ∷ f ∷ g ∷ h ∷ i ∷ s) o l = absurd (omega arith)
eight_same (a ∷ b ∷ c ∷ d ∷ e ∷ f ∷ g ∷ h ∷ []) (every_cons ha (every_cons hb (every_cons hc (every_cons hd (every_cons he (every_cons hf (every_cons hg (every_cons hh o)))))))) l =
    let u = ((((((a * 256 + b) * 256 + c) * 256 + d) * 256 + e) * 256 + f) * 256 + g) * 256 + h in
    let q : eight u ≡ a ∷ b ∷ c ∷ d ∷ e ∷ f ∷ g ∷ h ∷ [] = eight_of_lem a b c d e f g h hb hc hd he hf hg hh in
    let p : u < 18446744073709551616 = pile_eight a b c d e f g h ha hb hc hd he hf hg hh in
    ap eight_of (ap integer_of (sym q) ∙ read_eight u p) ∙ ap eight (of_z-to_z w64 u (record { fits = p })) ∙ q

-- 64 bits are those of the integer that their octets are read as
pub eight_integer : (u : ℕ) → u < 18446744073709551616 → of_z w64 (integer_of (eight u)) ≡ u
eight_integer u h = ap (of_z w64) (read_eight u h) ∙ of_z-to_z w64 u (record { fits = h })

pub eight_length : (u : ℕ) → length (eight u) ≡ 8
unfolding eight
eight_length u = refl

pub fewest_octets : {s : List ℕ} → AllOctets s → AllOctets (fewest s)
unfolding fewest
fewest_octets every_nil = every_nil
fewest_octets (every_cons {x = a} {l = s} h o) =
    if_cases AllOctets (minimal (a ∷ s)) (a ∷ s) (λ _. fewest s) (λ e. every_cons h o) (λ e. fewest_octets o)
