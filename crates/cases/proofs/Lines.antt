-- The lines in the pieces of which they are made.
-- Assumes nothing.
use mathlib.Core.List.{List, [], ◌∷◌, ◌++◌, append_assoc}
use mathlib.Core.Path.{◌≡◌}
use Prim.Native.Nat.{ℕ}
use lib.ListN.{length}
use Rattle.cases.specs.Output.{decimal, hexadecimal, done_line, refused_line, cut_line}
use Rattle.cases.proofs.Digits.{shown_none, shown_some}

module _ (number : ℕ) where
  pub done_none : (s : List ℕ) → length s ≡ 0 → decimal number ++ (32 ∷ 111 ∷ 107 ∷ 10 ∷ []) ≡ done_line number s
  unfolding done_line
  done_none s e = rw (shown_none s e) (simp append_assoc)

  pub done_some : (s : List ℕ) → (length s ≡ 0 → ⊥) → decimal number ++ (32 ∷ 111 ∷ 107 ∷ 32 ∷ []) ++ hexadecimal s ++ (10 ∷ []) ≡ done_line number s
  unfolding done_line
  done_some s e = rw (shown_some s e) (simp append_assoc)

  pub cut_whole : decimal number ++ (32 ∷ 99 ∷ 117 ∷ 116 ∷ 10 ∷ []) ≡ cut_line number
  unfolding cut_line
  cut_whole = simp append_assoc

  pub refused_whole : (n p : ℕ) → decimal number ++ (32 ∷ 110 ∷ 111 ∷ 32 ∷ (decimal n ++ (32 ∷ (decimal p ++ (10 ∷ []))))) ≡ refused_line number n p
  unfolding refused_line
  refused_whole n p = simp append_assoc
