-- How long the lines are: none is longer than `longest`.
-- Assumes nothing.
use mathlib.Core.List.{List, [], ◌∷◌}
use Prim.Native.Nat.{ℕ, zero, suc, ◌+◌, ◌*◌, ◌/◌, ◌^◌, ◌≤◌, ◌<◌}
use native.Mathlib.Nat.{pow-suc}
use native.Mathlib.Omega.{arith}
use lib.ListN.{length, length-append}
use Rattle.cases.specs.Output.{longest, figures, decimal, shown, done_line, refused_line, cut_line}
use Rattle.cases.proofs.Digits.{hexadecimal_length}

figures_length : (k j n : ℕ) → n < 10 ^ j → length (figures k n) ≤ j
unfolding figures
figures_length zero j n h = omega arith
figures_length (suc k) j zero h = omega arith
figures_length (suc k) zero (suc n) h = absurd (omega arith)
figures_length (suc k) (suc j) (suc n) h = simp length-append (omega (arith, figures_length k j (suc n / 10) (omega (arith, pow-suc 10 j))))

-- a number of 64 bits has at most twenty digits
pub decimal_length : (n : ℕ) → n < 2 ^ 64 → length (decimal n) ≤ 20
unfolding decimal
decimal_length n h = simp length-append (omega (arith, figures_length n 19 (n / 10) (omega arith)))

shown_length : (s : List ℕ) → length (shown s) ≤ 1 + 2 * length s
unfolding shown
shown_length [] = omega arith
shown_length (o ∷ s) = omega (arith, hexadecimal_length (o ∷ s))

-- so each line is within `longest`
pub done_length : (number : ℕ) (result : List ℕ) → number < 2 ^ 64 → length result ≤ 16384 → length (done_line number result) ≤ longest
unfolding done_line
done_length number result h k = simp length-append (omega (arith, decimal_length number h, shown_length result))

pub refused_length : (number n p : ℕ) → number < 2 ^ 64 → n < 2 ^ 64 → p < 2 ^ 64 → length (refused_line number n p) ≤ longest
unfolding refused_line
refused_length number n p h i j = simp length-append (omega (arith, decimal_length number h, decimal_length n i, decimal_length p j))

pub cut_length : (number : ℕ) → number < 2 ^ 64 → length (cut_line number) ≤ longest
unfolding cut_line
cut_length number h = simp length-append (omega (arith, decimal_length number h))
