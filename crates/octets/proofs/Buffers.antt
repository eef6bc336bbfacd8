-- Laws of buffers: octets that have room, and a part that was lent on.
-- Assumes nothing.
use mathlib.Core.List.{List, ◌++◌, append-nil, append_assoc}
use mathlib.Core.Path.{◌≡◌, refl, sym, ◌∙◌}
use Prim.Native.Nat.{ℕ, ◌+◌, ◌-◌, ◌≤◌}
use native.Mathlib.Nat.{add-sub_cancel_left}
use native.Mathlib.Omega.{arith}
use lib.ListN.{length, take, drop, length-drop}
use lib.Seq.{sets, sets-eq, drop-length, drop-drop, length-take-le}
use borrow.Author.Tests.{le-leb, eq-eqb}
use Rattle.octets.specs.Buffers.{put, put_end, filled}

-- octets put over as many from the first on are all there is
pub sets_all : (w p : List ℕ) → length p ≡ length w → sets p 0 w ≡ w
sets_all w p l =
    let e : 0 + length w ≡ length w = omega arith in
    sets-eq w p 0 (omega arith) ∙ rw (e, ← l, drop-length, append-nil w) refl

-- octets that have room are put
pub put_roomy : (buf : List ℕ) (to : ℕ) (w : List ℕ) → to + length w ≤ length buf → put buf to w ≡ sets buf to w
put_roomy buf to w h = rw (le-leb (to + length w) (length buf) h) refl

pub put_end_lem : (buf : List ℕ) (to : ℕ) (w : List ℕ) → to + length w ≤ length buf → put_end buf to w ≡ to + length w
put_end_lem buf to w h = rw (le-leb (to + length w) (length buf) h) refl

-- a part that was lent on and filled
pub part_filled : (b w p : List ℕ) (to n : ℕ) → n ≡ length w → to + n ≤ length b → p ≡ filled (take (to + n - to) (drop to b)) w
    → take to b ++ (p ++ drop (to + n - to) (drop to b)) ≡ sets b to w
part_filled b w p to n e h q =
    let l : length (take (to + n - to) (drop to b)) ≡ n = rw (add-sub_cancel_left to n, length-take-le n (drop to b) (omega (arith, length-drop to b))) refl in
    let d : p ≡ w = q ∙ rw (l, eq-eqb (length w) n (sym e)) refl in
    rw (d, add-sub_cancel_left to n, drop-drop n to b, e) (sym (sets-eq w b to (omega arith) ∙ append_assoc (take to b) w (drop (to + length w) b)))
