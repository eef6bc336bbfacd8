-- Laws on a list of what a function gives.
-- Assumes nothing.
use mathlib.Core.Path.{◌≡◌, refl, ap}
use native.Mathlib.Omega.{arith}
use Prim.Native.Nat.{ℕ, zero, suc, ◌+◌, ◌<◌}
use lib.ListN.{length, get_or}
use Rattle.octets.specs.Lists.{tabulate}

module _ {A : Type 0} where
  pub length_tabulate : (f : ℕ → A) (k n : ℕ) → length (tabulate f k n) ≡ n
  unfolding tabulate
  length_tabulate f k zero = refl
  length_tabulate f k (suc n) = ap suc (length_tabulate f (suc k) n)

  pub get_or_tabulate : (f : ℕ → A) (k n i : ℕ) (d : A) → i < n → get_or (tabulate f k n) i d ≡ f (k + i)
  unfolding tabulate
  get_or_tabulate f k zero i d h = absurd (omega arith)
  get_or_tabulate f k (suc n) zero d h = let q : k ≡ k + 0 = omega arith in ap f q
  get_or_tabulate f k (suc n) (suc i) d h = let q : k + suc i ≡ suc k + i = omega arith in rw q (get_or_tabulate f (suc k) n i d (omega arith))
