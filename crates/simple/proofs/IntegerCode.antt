-- Laws for the code of integers: the bits of an integer, loops that read and put octets, tests for the fewest octets, all eight octets at once.
-- Assumes nothing.
use borrow.Author.Tests.{ltb-true, eq-eqb, ne_eqb, le-leb, lt-leb}
use mathlib.Core.Path.{◌≡◌, refl, sym, ap, ◌∙◌}
use mathlib.Core.Bool.{Bool, true, false, not, true≢false}
use mathlib.Core.List.{List, [], ◌∷◌}
use native.Mathlib.Nat.{zero-add, pow-le-pow_right}
use native.Mathlib.Numerals.{add-one}
use native.Mathlib.Omega.{arith}
use Prim.Native.Nat.{ℕ, zero, suc, ◌+◌, ◌-◌, ◌*◌, ◌/◌, ◌%◌, ◌^◌, ◌≤◌, ◌<◌}
use lib.Bits.{bit_and, bit_or, or_shifted, and_mask}
use lib.Dec.{T, ltb, eqb}
use lib.IntN.{ℤ, pos, negsuc, nat_abs}
use lib.ListN.{length, drop, get_or, set, length-set, drop_of_length-le}
use lib.Seq.{drop-cons, drop-set-lt, get_or-set_same}
use lib.Signed.{mag, lt_z, non_neg, shr_z}
use mir.Syntax.{w64}
use mir.Val.{Fits, SFits, to_z, of_z}
use mir.Facts.{Fits-of_z}
use mir.ValLaws.{to_z_pos, to_z-neg, to_z-of_z}
use Rattle.std.specs.Int.{to_be_bytes, from_be_bytes}
use Rattle.octets.specs.Buffers.{filled}
use Rattle.octets.specs.Tests.{if}
use Rattle.octets.specs.Numbers.{Octets}
use Rattle.octets.proofs.Answer.{run}
use Rattle.octets.proofs.Permutations.{all_octets}
use Rattle.x690.specs.Integer.{negative, digit, pile, signed, integer_of, spare, minimal, eight, eight_of}
use Rattle.simple.specs.Integers.{integer_in, last_before}
use Rattle.x690.proofs.Integers.{grow, head_small, within, eight_length, spelt, eight_same, integer_fits}

-- z, or its complement, by what `z < 0` says
pub bits_neg : (z : ℤ) → SFits w64 z → lt_z (to_z w64 (of_z w64 z)) (pos 0) ≡ true → to_z w64 (18446744073709551615 - of_z w64 z) ≡ pos (mag z)
bits_neg (pos n) f h =
    let e : ltb n 0 ≡ true = sym (ap (λ (y : ℤ). lt_z y (pos 0)) (to_z-of_z w64 (pos n) f)) ∙ h in
    absurd (omega (arith, ltb-true n 0 e))
bits_neg (negsuc n) f h =
    let b = f.sfits in
    let e : 18446744073709551615 - (18446744073709551616 - suc n) ≡ n = omega arith in
    ap (to_z w64) e ∙ to_z_pos w64 n b

pub bits_pos : (z : ℤ) → SFits w64 z → lt_z (to_z w64 (of_z w64 z)) (pos 0) ≡ false → to_z w64 (of_z w64 z) ≡ pos (mag z)
bits_pos (pos n) f h = to_z-of_z w64 (pos n) f
bits_pos (negsuc n) f h = absurd (true≢false (sym (ap (λ (y : ℤ). lt_z y (pos 0)) (to_z-of_z w64 (negsuc n) f)) ∙ h))

-- 64 bits as the top one and the others: put together, and taken apart
pub top_and_others : (u : ℕ) → u < 18446744073709551616
    → bit_or (u / 9223372036854775808 * 2 ^ 63 % 18446744073709551616) (u % 9223372036854775808) ≡ u
top_and_others u h =
    let e : u / 9223372036854775808 * 9223372036854775808 % 18446744073709551616 ≡ u / 9223372036854775808 * 9223372036854775808 = omega arith in
    let f : u / 9223372036854775808 * 9223372036854775808 + u % 9223372036854775808 ≡ u = omega arith in
    rw e (or_shifted (u / 9223372036854775808) 63 (u % 9223372036854775808) (omega arith) ∙ f)

-- u, read as an integer that is not negative, goes into 64 bits as n
abbrev pub Cast : ℕ → ℕ → Type 0
Cast u n = T (non_neg (to_z w64 u)) × Fits w64 (nat_abs (to_z w64 u)) × (nat_abs (to_z w64 u) ≡ n)

cast : (u n : ℕ) → u ≡ n → n < 9223372036854775808 → Cast u n
cast u n e h = rw (e, to_z_pos w64 n h) (tt, record { fits = omega arith }, refl)

pub top_cast : (z : ℤ) → SFits w64 z → Cast (bit_and (of_z w64 (shr_z (to_z w64 (of_z w64 z)) (2 ^ 63))) 1) (of_z w64 z / 9223372036854775808)
top_cast z f = rw (to_z-of_z w64 z f) (side z f.sfits)
  where
    side : (z : ℤ) → mag z < 9223372036854775808 → Cast (bit_and (of_z w64 (shr_z z (2 ^ 63))) 1) (of_z w64 z / 9223372036854775808)
    side (pos n) h = let e : n / 9223372036854775808 ≡ 0 = omega arith in rw e (cast 0 0 refl (omega arith))
    side (negsuc n) h =
        let e : n / 9223372036854775808 ≡ 0 = omega arith in
        let g : (18446744073709551616 - suc n) / 9223372036854775808 ≡ 1 = omega arith in
        rw (e, g) (cast 1 1 refl (omega arith))

pub others_cast : (u : ℕ) → Cast (bit_and u 9223372036854775807) (u % 9223372036854775808)
others_cast u = cast (bit_and u 9223372036854775807) (u % 9223372036854775808) (and_mask u 63) (omega arith)

-- 64 bits of a number that is not negative, and their complement in one that is: as `digit` of an octet
abbrev magnitude : Bool → ℕ → ℕ
magnitude false u = u
magnitude true u = 18446744073709551615 - u

-- a loop that reads octets: u are eight, the fill, the first of s, and then k of the others, r
abbrev pub Extended : List ℕ → List ℕ → ℕ → ℕ → Type 0
Extended s r k u =
    let neg = negative s in
    (u < 18446744073709551616) × (magnitude neg u < 128 * 256 ^ k) × (pile neg (magnitude neg u) (drop k r) ≡ pile neg 0 s)

-- at the start: the fill seven times, and the first octet
filled_first : (t : Bool) (b : ℕ) → b < 256
    → let u = (if t 0 λ _. 255) * 72340172838076672 + b in (u < 18446744073709551616) × (magnitude (not t) u ≡ digit (not t) b)
filled_first true b h = (omega arith, omega arith)
filled_first false b h = (omega arith, omega arith)

pub extended_first : (b : ℕ) (r : List ℕ) {s : List ℕ} (f x : ℕ) → s ≡ b ∷ r → b < 256 → f ≡ (if (ltb b 128) 0 λ _. 255) → x ≡ b
    → Extended s r 0 (f * 72340172838076672 + x)
unfolding negative pile
extended_first b r f x h o p q =
    let (small, e) = filled_first (ltb b 128) b o in rw (h, p, q) (small, rw e (head_small b (not (ltb b 128)) refl), rw (e, zero-add))

-- one octet on: it pushes one fill out
pushed : (neg : Bool) (u b : ℕ) → u < 18446744073709551616 → b < 256 → magnitude neg u < 36028797018963968
    → magnitude neg (u % 72057594037927936 * 256 + b) ≡ magnitude neg u * 256 + digit neg b
pushed false u b h k small = omega arith
pushed true u b h k small = omega arith

room : (k acc : ℕ) → k ≤ 6 → acc < 128 * 256 ^ k → acc < 36028797018963968
room k acc le h = omega (arith, pow-le-pow_right {n = 256} (omega arith) {i = k} {j = 6} le)

still_small : (neg : Bool) (k acc b : ℕ) → acc < 128 * 256 ^ k → b < 256 → acc * 256 + digit neg b < 128 * 256 ^ suc k
still_small false k acc b h o = grow k acc b h o
still_small true k acc b h o = grow k acc (255 - b) h (omega arith)

pub extended_next : (s r : List ℕ) (k u x : ℕ) → k < length r → length r ≤ 7 → x ≡ get_or r k 0 → x < 256
    → Extended s r k u → Extended s r (k + 1) (u % 72057594037927936 * 256 + x)
unfolding pile
extended_next s r k u x more few is o (h, small, left) =
    let neg = negative s in
    let e = pushed neg u x h o (room k (magnitude neg u) (omega arith) small) in (
      omega arith,
      rw (e, add-one) (still_small neg k (magnitude neg u) x small o),
      rw (e, add-one) (rw (drop-cons r k 0 more, ← is) at left),
    )

-- at the end: the integer of what was read
by_sign : (neg : Bool) (u : ℕ) → u < 18446744073709551616 → magnitude neg u < 9223372036854775808 → to_z w64 u ≡ signed neg (magnitude neg u)
by_sign false u h small = to_z_pos w64 u small
by_sign true u h small =
    let e : u ≡ 18446744073709551616 - suc (18446744073709551615 - u) = omega arith in
    ap (to_z w64) e ∙ to_z-neg w64 (18446744073709551615 - u) small

pub extended_last : (s r : List ℕ) (k u : ℕ) → length r + 1 ≡ length s → k ≤ length r → length r ≤ k → length r ≤ 7 → Extended s r k u
    → to_z w64 u ≡ integer_in s
unfolding integer_of pile
extended_last s r k u l le ge few (h, small, left) =
    let neg = negative s in
    let n : magnitude neg u ≡ pile neg 0 s = rw (drop_of_length-le r ge) at left in
    by_sign neg u h (within k (magnitude neg u) (omega arith) small) ∙ simp (run, le-leb (length s) 8 (omega arith), n)

-- no octet, or too many
pub integer_none : (s : List ℕ) → length s ≡ 0 → pos 0 ≡ integer_in s
unfolding integer_of negative pile
integer_none [] h = simp run
integer_none (b ∷ s) h = absurd (omega arith)

pub integer_long : (s : List ℕ) → 8 < length s → pos 0 ≡ integer_in s
integer_long s h = simp (run, lt-leb (length s) 8 h)

-- contents in the fewest octets, by how many there are
pub minimal_none : (s : List ℕ) → length s ≡ 0 → minimal s ≡ false
unfolding minimal
minimal_none [] h = refl
minimal_none (a ∷ s) h = absurd (omega arith)

pub minimal_one : (s : List ℕ) → length s ≡ 1 → minimal s ≡ true
unfolding minimal
minimal_one [] h = absurd (omega arith)
minimal_one (a ∷ []) h = refl
minimal_one (a ∷ b ∷ s) h = absurd (omega arith)

pub minimal_more : (s : List ℕ) → (length s ≡ 0 → ⊥) → (length s ≡ 1 → ⊥) → minimal s ≡ not (spare (get_or s 0 0) (get_or s 1 0))
unfolding minimal
minimal_more [] h k = absurd (h refl)
minimal_more (a ∷ []) h k = absurd (k refl)
minimal_more (a ∷ b ∷ s) h k = refl

-- all eight octets over a part
pub eight_stays : (u : ℕ) (p : List ℕ) → (length p ≡ 8 → ⊥) → p ≡ filled p (eight u)
eight_stays u p h = rw (eight_length, ne_eqb 8 (length p) (λ e. h (sym e))) refl

eight_bytes : (u : ℕ) → u < 18446744073709551616 → to_be_bytes w64 u ≡ eight u
unfolding eight
eight_bytes u h = let e : u / 72057594037927936 % 256 ≡ u / 72057594037927936 = omega arith in rw e

pub eight_filled : (z : ℤ) (p : List ℕ) {d : List ℕ} → SFits w64 z → length p ≡ 8 → d ≡ to_be_bytes w64 (of_z w64 z) → d ≡ filled p (eight_of z)
eight_filled z p f h e = rw (eight_length, h) (e ∙ eight_bytes (of_z w64 z) (Fits-of_z {w = w64} {z = z} f).fits)

-- eight octets as one number
bytes_spelt : (a b c d e f g h : ℕ) → from_be_bytes w64 (a ∷ b ∷ c ∷ d ∷ e ∷ f ∷ g ∷ h ∷ []) ≡ pile false 0 (a ∷ b ∷ c ∷ d ∷ e ∷ f ∷ g ∷ h ∷ [])
unfolding pile
bytes_spelt a b c d e f g h = omega arith

bytes_eight : (u : ℕ) → u < 18446744073709551616 → from_be_bytes w64 (eight u) ≡ u
unfolding eight
bytes_eight u h = bytes_spelt _ _ _ _ _ _ _ _ ∙ spelt u h

pub not_eight : (c : List ℕ) → (length c ≡ 8 → ⊥) → pos 0 ≡ integer_of (filled (eight 0) c)
unfolding integer_of negative pile eight
not_eight c h = rw (ne_eqb (length c) 8 h) refl

pub read_bytes : (c : List ℕ) {d : List ℕ} → Octets c → length c ≡ 8 → d ≡ c → to_z w64 (from_be_bytes w64 d) ≡ integer_of (filled (eight 0) c)
read_bytes c o l e =
    let a = all_octets c o in
    let g : SFits w64 (integer_of c) = integer_fits c a (omega arith) in
    let u : from_be_bytes w64 c ≡ of_z w64 (integer_of c) =
    ap (from_be_bytes w64) (sym (eight_same c a l)) ∙ bytes_eight _ (Fits-of_z {w = w64} {z = integer_of c} g).fits in
    let q : eqb (length c) (length (eight 0)) ≡ true = eq-eqb (length c) (length (eight 0)) (l ∙ sym (eight_length 0)) in
    rw (q, e, u) (to_z-of_z w64 (integer_of c) g)

-- a loop that puts the last octets of a number, the last of them first
pub last_turn : (p : List ℕ) (u left : ℕ) {W : List ℕ} → 0 < left → left ≤ length p
    → last_before left u (drop left p) ≡ W → last_before (left - 1) (u / 256) (drop (left - 1) (set p (left - 1) (u % 256))) ≡ W
unfolding last_before
last_turn p u zero h k w = absurd (omega arith)
last_turn p u (suc n) h k w =
    let e : suc n - 1 ≡ n = omega arith in
    let i : n < length p = omega arith in
    let j : n < length (set p n (u % 256)) = rw length-set i in
    rw (e, drop-cons (set p n (u % 256)) n 0 j, get_or-set_same p n (u % 256) 0 i, drop-set-lt (suc n) p n (u % 256) (omega arith)) w

pub last_end : (p : List ℕ) (u left : ℕ) {W : List ℕ} → left ≤ 0 → last_before left u (drop left p) ≡ W → p ≡ W
unfolding last_before
last_end p u zero h w = w
last_end p u (suc n) h w = absurd (omega arith)
