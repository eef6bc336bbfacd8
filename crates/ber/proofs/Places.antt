-- Laws of what is left of octets at a place.
-- Assumes nothing.
use mathlib.Core.List.{List, [], ◌∷◌}
use mathlib.Core.Path.{◌≡◌, refl, sym, ap, ◌∙◌}
use native.Mathlib.Numerals.{add-one}
use native.Mathlib.Omega.{arith}
use Prim.Native.Nat.{ℕ, ◌+◌, ◌-◌, ◌≤◌, ◌<◌}
use lib.ListN.{length, get_or, take, drop, length-drop, drop_of_length-le}
use lib.Seq.{drop-cons, drop-drop, take-length}

module _ (m : List ℕ) (at : ℕ) where
  pub left_at : at ≤ length m → length m - length (drop at m) ≡ at
  left_at h = omega (arith, length-drop at m)

  pub none_at : length m ≤ at → drop at m ≡ []
  none_at h = drop_of_length-le m h

  pub some_at : at < length m → drop at m ≡ get_or m at 0 ∷ drop (at + 1) m
  some_at h = rw add-one (drop-cons m at 0 h)

-- with the octet before it
pub from_before : (m : List ℕ) (at : ℕ) → 0 < at → at ≤ length m → drop (at - 1) m ≡ get_or m (at - 1) 0 ∷ drop at m
from_before m at h k = let e : at - 1 + 1 ≡ at = omega arith in rw e at (some_at m (at - 1) (omega arith))

-- a part to the end, as a callee sees it
pub part_to_end : (m : List ℕ) (at : ℕ) → take (length m - at) (drop at m) ≡ drop at m
part_to_end m at = rw (← length-drop at m) (take-length (drop at m))

pub one_back : (n : ℕ) → n + 1 - 1 ≡ n
one_back n = omega arith

-- w is left of s after some octets
abbrev pub Left : List ℕ → List ℕ → Type 0
Left s w = (p : ℕ) × (w ≡ drop p s) × (p ≤ length s)

pub left_all : (s : List ℕ) → Left s s
left_all s = (0, refl, omega arith)

pub left_none : (s : List ℕ) → Left s []
left_none s = (length s, sym (none_at s (length s) (omega arith)), omega arith)

pub left_of : (s : List ℕ) (p : ℕ) {u w : List ℕ} → u ≡ drop p s → p ≤ length s → Left u w → Left s w
left_of s p e h (q, f, k) =
    let l = ap length e ∙ length-drop p s in
    (p + q, f ∙ ap (drop q) e ∙ drop-drop q p s, omega arith)

pub left_few : {s w : List ℕ} → Left s w → length w ≤ length s
left_few {s} (p, e, h) = omega (arith, ap length e, length-drop p s)

pub left_back : (s w : List ℕ) → Left s w → drop (length s - length w) s ≡ w
left_back s w (p, e, h) = rw (e, left_at s p h) refl
