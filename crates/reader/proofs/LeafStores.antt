-- What the code stores of a leaf: parts of the buffer that were lent on, and the octets of each kind.
-- Assumes nothing.
use mathlib.Core.List.{List, ◌++◌}
use mathlib.Core.Path.{◌≡◌, refl, sym, ap, ◌∙◌}
use Prim.Native.Nat.{ℕ, ◌+◌, ◌-◌, ◌≤◌}
use native.Mathlib.Omega.{arith}
use borrow.Author.Tests.{le-leb}
use lib.IntN.{ℤ}
use lib.ListN.{length, take, drop, length-drop}
use lib.Seq.{sets, length-sets, take_all}
use Rattle.octets.specs.Answer.{if}
use Rattle.octets.specs.Numbers.{octets_of}
use Rattle.octets.specs.Buffers.{filled}
use Rattle.octets.proofs.Buffers.{part_filled}
use Rattle.x690.specs.Integer.{integer_of}
use Rattle.simple.specs.Integers.{integer_in}
use Rattle.reader.proofs.Stores.{sets_append}

pub from_is : (a : ℕ) (m : List ℕ) → take (length m - a) (drop a m) ≡ drop a m
from_is a m = take_all (length m - a) (drop a m) (omega (arith, length-drop a m))

-- a part of the buffer was filled behind a number
pub number_filled : (b b₁ w p : List ℕ) (to k n : ℕ) → b₁ ≡ sets b to (octets_of k) → n ≡ length w → to + 2 + n ≤ length b
    → p ≡ filled (take (to + 2 + n - (to + 2)) (drop (to + 2) b₁)) w
    → take (to + 2) b₁ ++ (p ++ drop (to + 2 + n - (to + 2)) (drop (to + 2) b₁)) ≡ sets b to (octets_of k ++ w)
number_filled b b₁ w p to k n e₁ e h q =
    let l = ap length e₁ ∙ length-sets b to (octets_of k) in
    part_filled b₁ w p (to + 2) n e (omega arith) q
    ∙ ap (λ (d : List ℕ). sets d (to + 2) w) e₁
    ∙ sym (sets_append (octets_of k) b to w)

pub integer_is : (c : List ℕ) (z : ℤ) → length c ≤ 8 → z ≡ integer_in c → z ≡ integer_of c
unfolding if
integer_is c z h e = e ∙ rw (le-leb (length c) 8 h) refl
