-- Laws of octets that are put: the length octets by their forms, octets that have room, identifier and length octets together.
-- Assumes nothing.
use borrow.Author.Tests.{lt-ltb, le-ltb, leb-true, ne_eqb}
use mathlib.Core.Bool.{Bool, true}
use mathlib.Core.List.{List, [], ◌∷◌, ◌++◌}
use mathlib.Core.Path.{◌≡◌, refl, sym, ◌∙◌}
use native.Mathlib.Nat.{add-zero, add-suc, suc-add}
use native.Mathlib.Omega.{arith}
use Prim.Native.Nat.{ℕ, zero, suc, ◌+◌, ◌/◌, ◌%◌, ◌≤◌, ◌<◌}
use lib.Dec.{leb}
use lib.ListN.{length, set, length-append, length-set}
use lib.Seq.{sets}
use Rattle.octets.specs.Buffers.{put, put_end}
use Rattle.octets.proofs.Answer.{run}
use Rattle.octets.proofs.Buffers.{put_roomy, put_end_lem}
use Rattle.x690.specs.Length.{digits, length_octets}

-- the digits of a number, one by one
digits_end : (k : ℕ) (l : List ℕ) → digits k 0 l ≡ l
unfolding digits
digits_end zero l = refl
digits_end (suc k) l = simp run

digits_next : (k n : ℕ) (l : List ℕ) → 0 < n → digits (suc k) n l ≡ digits k (n / 256) (n % 256 ∷ l)
unfolding digits
digits_next k n l h = simp (run, ne_eqb n 0 (λ e. omega arith))

module _ (n : ℕ) where
  digits_one : 128 ≤ n → n < 256 → digits 8 n [] ≡ n ∷ []
  digits_one g h =
      let q : n / 256 ≡ 0 = omega arith in
      let r : n % 256 ≡ n = omega arith in
      digits_next 7 n [] (omega arith) ∙ rw (q, r) (digits_end 7 (n ∷ []))

  digits_two : 256 ≤ n → n < 65536 → digits 8 n [] ≡ n / 256 ∷ n % 256 ∷ []
  digits_two g h =
      let q : n / 256 / 256 ≡ 0 = omega arith in
      let r : n / 256 % 256 ≡ n / 256 = omega arith in
      digits_next 7 n [] (omega arith) ∙ digits_next 6 (n / 256) (n % 256 ∷ []) (omega arith) ∙ rw (q, r) (digits_end 6 (n / 256 ∷ n % 256 ∷ []))

  pub length_one : n < 128 → length_octets n ≡ n ∷ []
  unfolding length_octets
  length_one h = simp (run, lt-ltb n 128 h)

  pub length_two : 128 ≤ n → n < 256 → length_octets n ≡ 129 ∷ n ∷ []
  unfolding length_octets
  length_two g h = simp (run, le-ltb n 128 g, digits_one g h)

  pub length_three : 256 ≤ n → n < 65536 → length_octets n ≡ 130 ∷ n / 256 ∷ n % 256 ∷ []
  unfolding length_octets
  length_three g h = simp (run, le-ltb n 128 (omega arith), digits_two g h)

-- whether octets have room, by the code's test
module _ (w : List ℕ) (to k n : ℕ) (t : Bool) (sized : n ≡ length w) (tested : t ≡ leb (to + n) k) where
  pub room : t ≡ true → to + length w ≤ k
  room h = rw sized at (leb-true (to + n) k (sym tested ∙ h))

module _ (buf : List ℕ) (to : ℕ) (w : List ℕ) (h : to + length w ≤ length buf) where
  pub puts : (v : List ℕ) (e : ℕ) (b : List ℕ) → w ≡ v → e ≡ to + length v → b ≡ sets buf to v → (e ≡ put_end buf to w) × (b ≡ put buf to w)
  puts v e b q x y = (x ∙ sym (put_end_lem buf to w h ∙ rw q refl), y ∙ sym (put_roomy buf to w h ∙ rw q refl))

-- octets behind octets
pub sets_append : (vs d : List ℕ) (i : ℕ) (ws : List ℕ) → sets d i (vs ++ ws) ≡ sets (sets d i vs) (i + length vs) ws
sets_append [] d i ws = rw add-zero refl
sets_append (v ∷ vs) d i ws = rw (sets_append vs (set d i v) (suc i) ws, add-suc, suc-add) refl

length_sets : (vs d : List ℕ) (i : ℕ) → length (sets d i vs) ≡ length d
length_sets [] d i = refl
length_sets (v ∷ vs) d i = length_sets vs (set d i v) (suc i) ∙ length-set d i v

pub put_behind : (buf : List ℕ) (to : ℕ) (v w : List ℕ) → to + length (v ++ w) ≤ length buf → (e : ℕ) (b : List ℕ) → e ≡ put_end buf to v → b ≡ put buf to v
    → (put_end b e w ≡ put_end buf to (v ++ w)) × (put b e w ≡ put buf to (v ++ w))
put_behind buf to v w h e b x y =
    let k = rw length-append at h in
    let x' : e ≡ to + length v = x ∙ put_end_lem buf to v (omega arith) in
    let y' : b ≡ sets buf to v = y ∙ put_roomy buf to v (omega arith) in
    let l : length b ≡ length buf = rw y' (length_sets v buf to) in
    let f : e + length w ≤ length b = omega arith in
    let q : e + length w ≡ to + length (v ++ w) = simp length-append (omega arith) in
    (put_end_lem b e w f ∙ q ∙ sym (put_end_lem buf to (v ++ w) h), put_roomy b e w f ∙ rw (x', y') (sym (sets_append v buf to w)) ∙ sym (put_roomy buf to (v ++ w) h))

-- for the code that puts length octets
pub ruleset lengths = (length_one, length_two, length_three)
