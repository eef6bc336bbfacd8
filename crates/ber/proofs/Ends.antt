-- Laws of the end of contents: each answer of the code, and what it says of reading on.
-- Assumes nothing.
use borrow.Author.Tests.{eq-eqb, ne_eqb, eqb-true, eqb-false, leb-true, leb-false}
use mathlib.Core.Bool.{Bool, true, false, ◌&&◌, ◌||◌}
use mathlib.Core.List.{List}
use mathlib.Core.Path.{◌≡◌}
use native.Mathlib.Omega.{arith}
use Prim.Native.Nat.{ℕ, ◌+◌, ◌-◌, ◌≤◌, ◌<◌}
use lib.Dec.{leb, eqb}
use lib.ListN.{length, get_or, drop, length-drop}
use Rattle.std.specs.Prelude.{Option, Some, None, Result, Ok, Err}
use Rattle.x690.specs.declared.ReadingCause.{ReadingCause}
use Rattle.x690.specs.declared.ReadingCause.TheVariants.{Cut, Forbidden}
use Rattle.octets.specs.Answer.{Answer, refused, if, none_left}
use Rattle.octets.proofs.Tests.{test}
use Rattle.ber.proofs.Places.{none_at, some_at}
use Rattle.x690.specs.Reading.{at_end}
use Rattle.ber.specs.Told.{mode, end_of}

module _ (m : List ℕ) (at : ℕ) where
  pub ends_none : length m ≤ at → Err Cut ≡ end_of true (length m) (drop at m)
  unfolding end_of if none_left
  ends_none k = rw (none_at m at k)

  pub ends_more : at < length m → (get_or m at 0 ≡ 0 → ⊥) → Ok None ≡ end_of true (length m) (drop at m)
  unfolding end_of if none_left
  ends_more h e = rw (some_at m at h, ne_eqb (get_or m at 0) 0 e)

  pub ends_half : at < length m → get_or m at 0 ≡ 0 → length m ≤ at + 1 → Err Cut ≡ end_of true (length m) (drop at m)
  unfolding end_of if none_left
  ends_half h e k = rw (some_at m at h, eq-eqb (get_or m at 0) 0 e, none_at m (at + 1) k)

  pub ends_wrong : at + 1 < length m → get_or m at 0 ≡ 0 → (get_or m (at + 1) 0 ≡ 0 → ⊥) → Err Forbidden ≡ end_of true (length m) (drop at m)
  unfolding end_of if none_left
  ends_wrong h e f = rw (some_at m at (omega arith), eq-eqb (get_or m at 0) 0 e, some_at m (at + 1) h, ne_eqb (get_or m (at + 1) 0) 0 f)

  pub ends_over : at + 1 < length m → get_or m at 0 ≡ 0 → get_or m (at + 1) 0 ≡ 0 → Ok (Some (at + 2)) ≡ end_of true (length m) (drop at m)
  unfolding end_of if none_left
  ends_over h e f =
      let w : length m - length (drop (at + 1 + 1) m) ≡ at + 2 = omega (arith, length-drop (at + 1 + 1) m) in
      rw (some_at m at (omega arith), eq-eqb (get_or m at 0) 0 e, some_at m (at + 1) h, eq-eqb (get_or m (at + 1) 0) 0 f, w)

  pub ends_closed : length m ≤ at → Ok (Some (length m)) ≡ end_of false (length m) (drop at m)
  unfolding end_of if none_left
  ends_closed k = rw (none_at m at k)

  pub ends_not : at < length m → Ok None ≡ end_of false (length m) (drop at m)
  unfolding end_of if none_left
  ends_not h = rw (some_at m at h)

  -- contents that were read before
  module _ (k : Bool) where
    pub over_none : length m ≤ at → true ≡ (none_left (drop at m) || (k && eqb (get_or m at 0) 0))
    unfolding none_left
    over_none h = rw (none_at m at h)

    pub over_closed : at < length m → k ≡ false → false ≡ (none_left (drop at m) || (k && eqb (get_or m at 0) 0))
    unfolding none_left
    over_closed h e = rw (some_at m at h, e)

    pub over_octet : at < length m → k ≡ true → eqb (get_or m at 0) 0 ≡ (none_left (drop at m) || (k && eqb (get_or m at 0) 0))
    unfolding none_left
    over_octet h e = rw (some_at m at h, e)

-- what an end says of reading on
module _ {A : Type 0} (f : List ℕ → Answer ReadingCause A) (x : Unit {0} → Answer ReadingCause A) (m : List ℕ) (at : ℕ) where
  abbrev Tells : Bool → Result (Option ℕ) ReadingCause → Type 0
  Tells k (Ok None) = (at_end (mode k) (drop at m) f x ≡ x tt) × (at < length m)
  Tells k (Ok (Some e)) = (at_end (mode k) (drop at m) f x ≡ f (drop e m)) × (at ≤ length m → at ≤ e) × (e ≤ length m)
  Tells k (Err c) = at_end (mode k) (drop at m) f x ≡ refused c (length (drop at m))

  tells_closed : Tells false (end_of false (length m) (drop at m))
  unfolding at_end if none_left
  tells_closed =
      test (leb (length m) at)
      (λ t. let k = leb-true (length m) at t in
      rw (← ends_closed m at k) (rw (none_at m at k, none_at m (length m) (omega arith)), (λ h. h), omega arith))
      λ t. let k : at < length m = leb-false (length m) at t in rw (← ends_not m at k) (rw (some_at m at k), k)

  tells_indefinite : Tells true (end_of true (length m) (drop at m))
  unfolding at_end if none_left
  tells_indefinite =
      test (leb (length m) at) (λ t. let k = leb-true (length m) at t in rw (← ends_none m at k) (rw (none_at m at k)))
      λ t. let k : at < length m = leb-false (length m) at t in
      test (eqb (get_or m at 0) 0)
      (λ g. let a = eqb-true (get_or m at 0) 0 g in
      test (leb (length m) (at + 1))
      (λ v. let l = leb-true (length m) (at + 1) v in
      rw (← ends_half m at k a l) (rw (some_at m at k, eq-eqb (get_or m at 0) 0 a, none_at m (at + 1) l)))
      λ v. let l : at + 1 < length m = leb-false (length m) (at + 1) v in
      let w : at + 2 ≡ at + 1 + 1 = omega arith in
      test (eqb (get_or m (at + 1) 0) 0)
      (λ b. let bb = eqb-true (get_or m (at + 1) 0) 0 b in
      rw (← ends_over m at l a bb)
      (rw (some_at m at k, eq-eqb (get_or m at 0) 0 a, some_at m (at + 1) l, eq-eqb (get_or m (at + 1) 0) 0 bb, w), (λ h. omega arith), omega arith))
      λ b. let bb = eqb-false (get_or m (at + 1) 0) 0 b in
      rw (← ends_wrong m at l a bb) (rw (some_at m at k, eq-eqb (get_or m at 0) 0 a, some_at m (at + 1) l, ne_eqb (get_or m (at + 1) 0) 0 bb)))
      λ g. let a = eqb-false (get_or m at 0) 0 g in
      rw (← ends_more m at k a) (rw (some_at m at k, ne_eqb (get_or m at 0) 0 a), k)

  tells : (k : Bool) → Tells k (end_of k (length m) (drop at m))
  tells true = tells_indefinite
  tells false = tells_closed

  pub end_more : (k : Bool) (r : Result (Option ℕ) ReadingCause) → r ≡ end_of k (length m) (drop at m) → r ≡ Ok None → (at_end (mode k) (drop at m) f x ≡ x tt) × (at < length m)
  end_more k r e d = rw (← e, d) at (tells k)

  pub end_over : (k : Bool) (r : Result (Option ℕ) ReadingCause) (u : ℕ) → at ≤ length m → r ≡ end_of k (length m) (drop at m) → r ≡ Ok (Some u)
      → (at_end (mode k) (drop at m) f x ≡ f (drop u m)) × (at ≤ u) × (u ≤ length m)
  end_over k r u h e d = let t : Tells k (Ok (Some u)) = rw (← e, d) at (tells k) in (t.0, t.1 h, t.2)

  pub end_broken : (k : Bool) (r : Result (Option ℕ) ReadingCause) (c : ReadingCause) → r ≡ end_of k (length m) (drop at m) → r ≡ Err c
      → at_end (mode k) (drop at m) f x ≡ refused c (length (drop at m))
  end_broken k r c e d = rw (← e, d) at (tells k)

-- for the code of each end
pub ruleset ends_indefinite = (ends_none, ends_more, ends_half, ends_wrong, ends_over)

pub ruleset ends_definite = (ends_closed, ends_not)

pub ruleset over = (over_none, over_closed, over_octet)
