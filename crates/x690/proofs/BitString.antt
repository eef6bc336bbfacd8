-- Laws of the unused bits of a BIT STRING, and of the code that tests and clears them.
-- Assumes nothing.
use borrow.Author.Tests.{ne_eqb}
use mathlib.Core.Bool.{Bool, false, not, ◌&&◌}
use mathlib.Core.List.{List, [], ◌∷◌}
use mathlib.Core.Path.{◌≡◌, refl, sym, ap, ◌∙◌}
use native.Mathlib.Nat.{mul-div_cancel, div-mul-le_self, add-zero}
use native.Mathlib.Numerals.{sub-one}
use native.Mathlib.Omega.{arith}
use Prim.Native.Nat.{ℕ, suc, ◌-◌, ◌*◌, ◌/◌, ◌%◌, ◌^◌}
use lib.Arith.{digits_mod}
use lib.Dec.{ltb, eqb}
use lib.ListN.{length, get_or, drop, set}
use lib.Pow.{pow_pos}
use Rattle.octets.specs.Answer.{none_left}
use Rattle.octets.specs.Buffers.{filled}
use Rattle.octets.specs.Permutations.{AllOctets, every_cons}
use Rattle.x690.specs.BitString.{unused, masked}

-- the unused bits of what is read are 0
pub masked_clear : (n x : ℕ) (c : List ℕ) → get_or (masked n (x ∷ c)) (length c) 0 % 2 ^ n ≡ 0
unfolding masked
masked_clear n x [] = ap (λ (z : ℕ). z % 2 ^ n) (sym (add-zero (x / 2 ^ n * 2 ^ n))) ∙ digits_mod (x / 2 ^ n) (pow_pos n)
masked_clear n x (y ∷ c) = masked_clear n y c

masked_cons : (n x y : ℕ) (c : List ℕ) → masked n (x ∷ masked n (y ∷ c)) ≡ x ∷ masked n (masked n (y ∷ c))
unfolding masked
masked_cons n x y [] = refl
masked_cons n x y (z ∷ c) = refl

pub masked_masked : (n : ℕ) (c : List ℕ) → masked n (masked n c) ≡ masked n c
unfolding masked
masked_masked n [] = refl
masked_masked n (x ∷ []) = ap (λ (z : ℕ). z * 2 ^ n ∷ []) (mul-div_cancel (x / 2 ^ n) (pow_pos n))
masked_masked n (x ∷ y ∷ c) = masked_cons n x y c ∙ ap (λ (l : List ℕ). x ∷ l) (masked_masked n (y ∷ c))

pub masked_unused : (n : ℕ) (c : List ℕ) → unused n (masked n c) ≡ unused n c
unfolding masked unused
masked_unused n [] = refl
masked_unused n (x ∷ []) = refl
masked_unused n (x ∷ y ∷ c) = refl

pub masked_octets : (n : ℕ) {c : List ℕ} → AllOctets c → AllOctets (masked n c)
unfolding masked
masked_octets n {c = []} es = es
masked_octets n {c = x ∷ []} (every_cons h es) = every_cons {x = x / 2 ^ n * 2 ^ n} (omega (arith, div-mul-le_self x (2 ^ n))) es
masked_octets n {c = x ∷ y ∷ c} (every_cons h es) = every_cons h (masked_octets n es)

pub length_masked : (n : ℕ) (c : List ℕ) → length (masked n c) ≡ length c
unfolding masked
length_masked n [] = refl
length_masked n (x ∷ []) = refl
length_masked n (x ∷ y ∷ c) = ap suc (length_masked n (y ∷ c))

-- only the last octet changes
masked_last : (n x : ℕ) (c : List ℕ) → masked n (x ∷ c) ≡ set (x ∷ c) (length c) (get_or (x ∷ c) (length c) 0 / 2 ^ n * 2 ^ n)
unfolding masked
masked_last n x [] = refl
masked_last n x (y ∷ c) = ap (λ (l : List ℕ). x ∷ l) (masked_last n y c)

-- octets with their last one over-written
pub masked_nothing : (n : ℕ) (c : List ℕ) → length c ≡ 0 → c ≡ masked n c
unfolding masked
masked_nothing n [] h = refl
masked_nothing n (x ∷ c) h = absurd (omega arith)

pub masked_set : (n u : ℕ) (c : List ℕ) → (length c ≡ 0 → ⊥) → u ≡ 2 ^ n → set c (length c - 1) (get_or c (length c - 1) 0 / u * u) ≡ masked n c
masked_set n u [] h e = absurd (h refl)
masked_set n u (x ∷ c) h e = rw (e, sub-one) (sym (masked_last n x c))

-- contents over a part that has as many octets, or that stays as it was
pub masked_stays : (n : ℕ) (c p : List ℕ) → (length c ≡ length p → ⊥) → p ≡ filled p (masked n c)
masked_stays n c p h = rw (length_masked, ne_eqb (length c) (length p) h) refl

-- contents by their octets: none, the first alone, or more
abbrev bits : List ℕ → Bool
bits c = not (none_left c) && unused (get_or c 0 0) (drop 1 c)

pub no_bits : (c : List ℕ) → length c ≡ 0 → false ≡ bits c
unfolding none_left
no_bits [] h = refl
no_bits (x ∷ c) h = absurd (omega arith)

pub bits_none : (c : List ℕ) → length c ≡ 1 → eqb (get_or c 0 0) 0 ≡ bits c
unfolding none_left unused
bits_none [] h = absurd (omega arith)
bits_none (x ∷ []) h = refl
bits_none (x ∷ y ∷ c) h = absurd (omega arith)

pub bits_some : (c : List ℕ) → (length c ≡ 0 → ⊥) → (length c ≡ 1 → ⊥) → ltb (get_or c 0 0) 8 ≡ bits c
unfolding none_left unused
bits_some [] h k = absurd (h refl)
bits_some (x ∷ []) h k = absurd (k refl)
bits_some (x ∷ y ∷ c) h k = refl
