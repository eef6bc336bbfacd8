-- Runs of stores, one after another, and a part of a buffer that comes back.
-- Assumes nothing.
use mathlib.Core.Bool.{true}
use mathlib.Core.List.{List, append_assoc}
use mathlib.Core.Path.{◌≡◌, refl, sym, ◌∙◌}
use Prim.Native.Nat.{ℕ, ◌+◌, ◌-◌, ◌≤◌}
use native.Mathlib.Omega.{arith}
use borrow.Author.Tests.{eq-eqb}
use borrow.Rule.Slice.PartMut.{put_mid}
use lib.IntN.{ℤ}
use lib.ListN.{length, take, drop, length-drop}
use lib.Seq.{sets, sets-eq, drop-drop, length-take-le}
use mir.Syntax.{w64}
use mir.Val.{of_z, SFits}
use Rattle.octets.specs.Buffers.{filled}
use Rattle.x690.specs.Integer.{fewest_of}
use Rattle.x690.specs.Time.{time_digits}
use Rattle.dates.specs.declared.DateTime.{DateTime}
use Rattle.dates.specs.declared.TimeKind.{TimeKind}
use Rattle.dates.specs.Calendar.{in_range}
use Rattle.simple.specs.Integers.{last_octets}
use Rattle.simple.proofs.LastOctets.{last_fewest}

-- a part of n octets from a on that comes back as w
part_put : (buf part w : List ℕ) (a n : ℕ) → part ≡ w → length w ≡ n → a + n ≤ length buf → put_mid a n buf part ≡ sets buf a w
part_put buf part w a n e l h = rw (e, drop-drop n a buf) (sym (rw (l, append_assoc) at (sets-eq w buf a (omega arith))))

-- a part that a copy was put over, one that a time was, and one that an integer was
module _ (buf : List ℕ) (to n : ℕ) (h : to + n ≤ length buf) where
  count : to + n - to ≡ n
  count = omega arith

  part_long : length (take (to + n - to) (drop to buf)) ≡ n
  part_long = let l = length-drop to buf in rw count (length-take-le n (drop to buf) (omega arith))

  filled_put : (w last : List ℕ) → n ≡ length w → last ≡ filled (take (to + n - to) (drop to buf)) w → put_mid to (to + n - to) buf last ≡ sets buf to w
  filled_put w last k e =
      let f : last ≡ w = e ∙ rw (eq-eqb (length w) (length (take (to + n - to) (drop to buf))) (sym k ∙ sym part_long)) refl in
      rw count (part_put buf last w to n f (sym k) h)

  pub copy_put : (v : List ℕ) (p : ℕ) (last : List ℕ) → p + n ≤ length v → last ≡ filled (take (to + n - to) (drop to buf)) (take (p + n - p) (drop p v))
      → put_mid to (to + n - to) buf last ≡ sets buf to (take n (drop p v))
  copy_put v p last g e =
      let q : p + n - p ≡ n = omega arith in
      let l = length-drop p v in
      filled_put (take n (drop p v)) last (sym (length-take-le n (drop p v) (omega arith))) (rw q at e)

  pub time_put : (k : TimeKind) (t s : DateTime) (last : List ℕ) → t ≡ s → in_range k s ≡ true → n ≡ length (time_digits k s)
      → (in_range k t ≡ true → last ≡ filled (take (to + n - to) (drop to buf)) (time_digits k t))
      → put_mid to (to + n - to) buf last ≡ sets buf to (time_digits k s)
  time_put k t s last et g en e = filled_put (time_digits k s) last en (rw et at (e (rw et g)))

  pub integer_put : (z y : ℤ) (last : List ℕ) → SFits w64 z → y ≡ z → n ≡ length (fewest_of z)
      → last ≡ last_octets (length (take (to + n - to) (drop to buf))) (of_z w64 y)
      → put_mid to (to + n - to) buf last ≡ sets buf to (fewest_of z)
  integer_put z y last s ey en e =
      let f : last ≡ fewest_of z = e ∙ rw (part_long, en, ey) (last_fewest z s) in
      rw count (part_put buf last (fewest_of z) to n f (sym en) h)
