-- The search of an integer among the numbers of an ENUMERATED.
-- Assumes nothing.
use Rattle.std.proofs.Common.{◌≡◌, refl, ◌∙◌, true, false, ◌&&◌, Bool, List, ℕ, suc, ◌+◌, ◌-◌, ◌*◌, ◌≤◌, ◌<◌, eqb, leb, ℤ, pos, negsuc, length, get_or, to_z, of_z, w64, arith}
use Rattle.std.specs.Int.{FitsUnsignedBits}
use lib.IntN.{nat_abs}
use mir.Val.{SFits}
use mir.ValLaws.{to_z-of_z}
use borrow.Author.Tests.{eq-eqb, ne_eqb}
use Rattle.octets.specs.Lists.{any}
use Rattle.octets.specs.Numbers.{two}
use Rattle.table.specs.Reading.{numbers_at}
use Rattle.records.specs.Entries.{lists_number}

-- what is left to search, from the i-th of n numbers on, decides the whole search
module _ (k : ℕ) (b : List ℕ) (p n i : ℕ) {w : Bool} where
  pub listed_stops : any (λ m. eqb m k) (numbers_at b (p + 2 * i) (n - i)) ≡ w → i < n → two b (p + 2 * i) ≡ k → true ≡ w
  unfolding numbers_at any
  listed_stops e h t = let q : n - i ≡ suc (n - i - 1) = omega arith in rw (q, eq-eqb (two b (p + 2 * i)) k t) at e

  pub listed_goes : any (λ m. eqb m k) (numbers_at b (p + 2 * i) (n - i)) ≡ w → i < n → (two b (p + 2 * i) ≡ k → ⊥)
      → any (λ m. eqb m k) (numbers_at b (p + 2 * (i + 1)) (n - (i + 1))) ≡ w
  unfolding numbers_at any
  listed_goes e h t =
      let q : n - i ≡ suc (n - (i + 1)) = omega arith in
      let r : p + 2 * (i + 1) ≡ p + 2 * i + 2 = omega arith in
      rw r (rw (q, ne_eqb (two b (p + 2 * i)) k t) at e)

  pub listed_ends : any (λ m. eqb m k) (numbers_at b (p + 2 * i) (n - i)) ≡ w → n ≤ i → false ≡ w
  unfolding numbers_at any
  listed_ends e h = let q : n - i ≡ 0 = omega arith in rw q at e

-- k is z as a number that is not negative
abbrev pub Natural : ℕ → ℤ → Type 0
Natural k z = FitsUnsignedBits 64 z × (k ≡ nat_abs z)

natural : (ns : List ℕ) (k : ℕ) (z : ℤ) → Natural k z → any (λ n. eqb n k) ns ≡ lists_number ns z
natural ns k (pos n) (h, e) = rw e refl
natural ns k (negsuc n) (h, e) = absurd h

-- all numbers are there, and the integer is one of them
pub listed_in : (b : List ℕ) (p n k : ℕ) (z : ℤ) (w : Bool) → n ≡ get_or b p 0 → true ≡ leb (p + 1 + 2 * n) (length b)
    → SFits w64 z → Natural k (to_z w64 (of_z w64 z)) → w ≡ any (λ m. eqb m k) (numbers_at b (p + 1) n)
    → w ≡ (leb (p + 1 + 2 * get_or b p 0) (length b) && lists_number (numbers_at b (p + 1) (get_or b p 0)) z)
listed_in b p n k z w e h f y x = rw (← e, ← h) (x ∙ natural (numbers_at b (p + 1) n) k z (rw (to_z-of_z w64 z f) at y))
