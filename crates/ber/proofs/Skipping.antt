-- Laws of passing over items by their headers: what is left, and the answers of the code, turn by turn.
-- Assumes nothing.
use mathlib.Core.Bool.{true, false}
use mathlib.Core.List.{List, [], ◌∷◌}
use mathlib.Core.Path.{◌≡◌, refl, sym, ap, ◌∙◌}
use native.Mathlib.Nat.{add-zero}
use native.Mathlib.Omega.{arith}
use Prim.Native.Nat.{ℕ, zero, suc, ◌+◌, ◌-◌, ◌%◌, ◌≤◌, ◌<◌, min}
use borrow.Author.Tests.{ne_eqb}
use lib.Dec.{ltb, eqb}
use lib.ListN.{length, get_or, drop, length-drop}
use lib.Seq.{drop-append_seam, drop-drop, get_or-drop}
use Rattle.std.specs.Prelude.{Result, Ok, Err}
use Rattle.x690.specs.declared.ReadingCause.{ReadingCause}
use Rattle.x690.specs.declared.ReadingCause.TheVariants.{Cut}
use Rattle.octets.specs.Answer.{Answer, got, refused, then, if}
use Rattle.octets.proofs.Answer.{refused≢got, got_holds, if_cases}
use Rattle.octets.proofs.Tests.{test}
use Rattle.x690.specs.Reading.{read_following, read_identifier, Size, definite, indefinite, read_length}
use Rattle.ber.specs.Skipping.{headed, Passed, behind_all, closes, jumps, opens, Skips, sized, unsized, after, left_open, open_end, item_end}
use Rattle.ber.specs.Told.{told_identifier, told_length}
use Rattle.ber.specs.declared.identifier.Identifier.{Identifier}
use Rattle.ber.specs.declared.length.Extent.{Extent}
use Rattle.ber.proofs.Told.{identifier_read, identifier_refused, says_definite, says_open, says_no, Room, length_rest, length_anywhere, length_definite, length_indefinite, length_refused}
use Rattle.ber.proofs.Places.{left_at, Left, left_all, left_none, left_of, left_few, left_back}
use Rattle.x690.proofs.Identifiers.{identifier_sound}

-- after a header
headed_left : (s : List ℕ) {z : Size} {w : List ℕ} → headed s ≡ got z w → (p : ℕ) × (w ≡ drop p s) × (0 < p) × (p ≤ length s) × Room z w
unfolding headed then
headed_left s {z} {w} x = go (read_identifier s) refl x
  where
    go : (y : Answer ReadingCause (List ℕ)) → read_identifier s ≡ y → then y (λ i s₁. read_length (length s) s₁) ≡ got z w
        → (p : ℕ) × (w ≡ drop p s) × (0 < p) × (p ≤ length s) × Room z w
    go (got i u) e x =
        let q = got_holds (identifier_sound s) e in
        let b : drop (length i) s ≡ u = ap (drop (length i)) q ∙ drop-append_seam i u in
        let (p, f, low, high, room) = length_rest s (length i) (length s) z w (rw b x) in
        (p, f, omega arith, high, room)
    go (refused c l) e x = refused≢got x

headed_one : (b : ℕ) → (c : ReadingCause) × (l : ℕ) × (headed (b ∷ []) ≡ refused c l)
unfolding headed read_identifier read_following read_length then if
headed_one b = test (ltb (b % 32) 31) (λ q. (Cut, 1, rw q)) λ q. (Cut, 1, rw q)

-- after an item, where `go` leaves an end of what it goes into
after_left : (s : List ℕ) (go : ℕ → List ℕ → List ℕ) (k : ℕ) (x : Answer ReadingCause Size) → ((j : ℕ) (u : List ℕ) → Left u (go j u))
    → ((z : Size) (w : List ℕ) → x ≡ got z w → Left s w × Room z w) → Left s (after go k x)
after_left s go k (got (definite n) w) h g =
    let ((p, e, l), room) = g (definite n) w refl in
    left_of s p e l (left_of w n refl room (h k (drop n w)))
after_left s go k (got indefinite w) h g = let ((p, e, l), room) = g indefinite w refl in left_of s p e l (h (suc k) w)
after_left s go k (refused c l) h g = left_none s

open_left : (n k : ℕ) (s : List ℕ) → Left s (left_open n k s)
unfolding left_open
open_left zero k s = left_all s
open_left (suc n) zero s = left_all s
open_left (suc n) (suc k) [] = left_all []
open_left (suc n) (suc k) (b ∷ s) =
    if_cases (Left (b ∷ s)) (eqb b 0) _ _
    (λ e. closing s (open_left n k (drop 1 s)))
    λ e. after_left (b ∷ s) (left_open n) (suc k) (headed (b ∷ s)) (open_left n)
    λ z w x. let (p, f, o, h, room) = headed_left (b ∷ s) x in ((p, f, h), room)
  where
    closing : (s : List ℕ) {w : List ℕ} → Left (drop 1 s) w → Left (b ∷ s) w
    closing [] h = left_of (b ∷ []) 1 refl (omega arith) h
    closing (d ∷ s) h = left_of (b ∷ d ∷ s) 2 refl (omega arith) h

-- by the first octets
open_none : (n k : ℕ) → left_open n k [] ≡ []
unfolding left_open
open_none zero k = refl
open_none (suc n) zero = refl
open_none (suc n) (suc k) = refl

module _ (n k : ℕ) where
  open_few : (s : List ℕ) → length s < 2 → left_open (suc n) (suc k) s ≡ []
  unfolding left_open
  open_few [] h = refl
  open_few (b ∷ []) h =
      if_cases (λ w. w ≡ []) (eqb b 0) _ _ (λ e. open_none n k) λ e. let (c, l, q) = headed_one b in rw q
  open_few (b ∷ d ∷ s) h = absurd (omega arith)

  open_close : (s : List ℕ) → get_or s 0 0 ≡ 0 → left_open (suc n) (suc k) s ≡ left_open n k (drop 2 s)
  unfolding left_open if
  open_close [] z = sym (open_none n k)
  open_close (b ∷ s) z = rw z refl

  open_header : (s : List ℕ) → (get_or s 0 0 ≡ 0 → ⊥) → left_open (suc n) (suc k) s ≡ after (left_open n) (suc k) (headed s)
  unfolding left_open if
  open_header [] z = absurd (z refl)
  open_header (b ∷ s) z = rw (ne_eqb b 0 z)

-- what is passed over by headers is what is left
passed_left : {k : ℕ} {s w : List ℕ} → Passed k s w → (n : ℕ) → length s ≤ n → left_open (suc n) k s ≡ w
unfolding left_open if
passed_left behind_all n h = refl
passed_left (closes p) zero h = absurd (omega arith)
passed_left (closes p) (suc n) h = passed_left p n (omega arith)
passed_left (jumps z e p) zero h = absurd (omega arith)
passed_left (jumps {b = b} {n = c} {s = s} {r = r} z e p) (suc n) h =
    let (q, f, o, l, room) = headed_left (b ∷ s) e in
    rw (ne_eqb b 0 (λ y. omega arith), e) (passed_left p n (omega (arith, length-drop c r, ap length f, length-drop q (b ∷ s))))
passed_left (opens z e p) zero h = absurd (omega arith)
passed_left (opens {b = b} {s = s} {r = r} z e p) (suc n) h =
    let (q, f, o, l, room) = headed_left (b ∷ s) e in
    rw (ne_eqb b 0 (λ y. omega arith), e) (passed_left p n (omega (arith, ap length f, length-drop q (b ∷ s))))

-- the extent of the item at the front of s, by the answer of the code on its identifier
module _ (s : List ℕ) (r : Result Identifier ReadingCause) (a : r ≡ told_identifier (length s) (read_identifier s)) where
  pub extent_none : (f : ReadingCause) → r ≡ Err f → Err f ≡ told_length (length s) (headed s)
  unfolding headed then told_length
  extent_none f d = rw (identifier_refused s r a f d) refl

  pub extent_here : (z : Identifier) → r ≡ Ok z → headed s ≡ read_length (length s) (drop z.end s)
  unfolding headed then
  extent_here z d = let (i, q, k, low, high) = identifier_read s r a z d in rw q

-- the header at the front of s, by the answer of the code
module _ (s : List ℕ) (x : Result Extent ReadingCause) (a : x ≡ told_length (length s) (headed s)) where
  head_refused : (f : ReadingCause) → x ≡ Err f → (l : ℕ) × (headed s ≡ refused f l)
  head_refused f g = says_no (length s) (headed s) f (sym g ∙ a)

  module _ (y : Extent) (g : x ≡ Ok y) where
    head_definite : y.indefinite ≡ false
        → (headed s ≡ got (definite (y.end - y.start)) (drop y.start s)) × (0 < y.start) × (y.start ≤ y.end) × (y.end ≤ length s)
    head_definite h =
        let (k, w, q, b, e) = says_definite (length s) y (headed s) (sym g ∙ a) h in
        let (p, f, low, high, room) = headed_left s q in
        let z = ap length f ∙ length-drop p s in
        let es : y.start ≡ p = omega arith in
        let ek : k ≡ y.end - y.start = omega arith in
        let ew : w ≡ drop y.start s = f ∙ ap (λ (j : ℕ). drop j s) (sym es) in
        (q ∙ rw (ek, ew), omega arith, omega arith, omega arith)

    head_indefinite : y.indefinite ≡ true → (headed s ≡ got indefinite (drop y.start s)) × (0 < y.start) × (y.start ≤ length s)
    head_indefinite h =
        let (w, q, b, e) = says_open (length s) y (headed s) (sym g ∙ a) h in
        let (p, f, low, high, room) = headed_left s q in
        let z = ap length f ∙ length-drop p s in
        let es : y.start ≡ p = omega arith in
        let ew : w ≡ drop y.start s = f ∙ ap (λ (j : ℕ). drop j s) (sym es) in
        (q ∙ rw ew, omega arith, omega arith)

-- the loop: what is left of m at a place inside k items is what is left at the start
pub record Stands (m : List ℕ) (start at k : ℕ) : Type 0 where
  pub turns : ℕ
  pub enough : length (drop at m) ≤ turns
  pub whole : left_open (suc (length m)) 1 (drop start m) ≡ left_open (suc turns) k (drop at m)

module _ (m : List ℕ) (start : ℕ) where
  pub pass_first : Stands m start start 1
  pass_first = record { turns = length m; enough = omega (arith, length-drop start m); whole = refl }

  pub pass_end : (at k : ℕ) → Stands m start at k → k ≤ 0 → at ≤ length m → at ≡ open_end m start
  unfolding open_end left_open
  pass_end at k S z h = let e : k ≡ 0 = omega arith in sym (rw (rw e at S.whole) (left_at m at h))

  module _ (at k : ℕ) (o : 0 < k) (S : Stands m start at k) where
    counted : k ≡ suc (k - 1)
    counted = omega arith

    standing : left_open (suc (length m)) 1 (drop start m) ≡ left_open (suc S.turns) (suc (k - 1)) (drop at m)
    standing = rw counted at S.whole

    octet_at : get_or (drop at m) 0 0 ≡ get_or m at 0
    octet_at = get_or-drop at m 0 0 ∙ ap (λ (i : ℕ). get_or m i 0) (add-zero at)

    -- nothing is left
    to_end : left_open (suc S.turns) (suc (k - 1)) (drop at m) ≡ [] → length m ≡ open_end m start
    unfolding open_end
    to_end e = sym (rw (standing ∙ e) (omega arith))

    -- a turn to a further place
    turn : (next j : ℕ) → at < next → next ≤ length m → left_open (suc S.turns) (suc (k - 1)) (drop at m) ≡ left_open S.turns j (drop next m)
        → Stands m start next j
    turn next j low high e =
        let l = length-drop at m in
        let n = S.enough in
        let t : S.turns ≡ suc (S.turns - 1) = omega arith in
        record { turns = S.turns - 1; enough = omega (arith, length-drop next m); whole = standing ∙ e ∙ ap (λ (t : ℕ). left_open t j (drop next m)) t }

    pub pass_cut : length m - at < 2 → length m ≡ open_end m start
    pass_cut l = to_end (open_few S.turns (k - 1) (drop at m) (omega (arith, length-drop at m)))

    pub pass_mark : get_or m at 0 ≡ 0 → at + 2 ≤ length m → Stands m start (at + 2) (k - 1)
    pass_mark z h =
        turn (at + 2) (k - 1) (omega arith) h
        (open_close S.turns (k - 1) (drop at m) (octet_at ∙ z) ∙ ap (left_open S.turns (k - 1)) (drop-drop 2 at m))

    module _ (z : get_or m at 0 ≡ 0 → ⊥) (x : Result Extent ReadingCause) (a : x ≡ told_length (length (drop at m)) (headed (drop at m))) where
      onward : left_open (suc S.turns) (suc (k - 1)) (drop at m) ≡ after (left_open S.turns) (suc (k - 1)) (headed (drop at m))
      onward = open_header S.turns (k - 1) (drop at m) λ e. z (sym octet_at ∙ e)

      pub pass_refused : (f : ReadingCause) → x ≡ Err f → length m ≡ open_end m start
      pass_refused f g = let (l, q) = head_refused (drop at m) x a f g in to_end (onward ∙ rw q refl)

      module _ (y : Extent) (g : x ≡ Ok y) (in_m : at ≤ length m) where
        pub pass_sized : y.indefinite ≡ false → (0 < y.end) × (at + y.end ≤ length m) × Stands m start (at + y.end) k
        pass_sized h =
            let (p, l, u, v) = head_definite (drop at m) x a y g h in
            let j : y.start + (y.end - y.start) ≡ y.end = omega arith in
            let w : at + y.end ≤ length m = omega (arith, length-drop at m) in
            let q : after (left_open S.turns) (suc (k - 1)) (headed (drop at m)) ≡ left_open S.turns k (drop (at + y.end) m) =
            rw (p, drop-drop (y.end - y.start) y.start (drop at m), j, drop-drop y.end at m, ← counted) refl in
            (omega arith, w, turn (at + y.end) k (omega arith) w (onward ∙ q))

        pub pass_opened : y.indefinite ≡ true → (0 < y.start) × (at + y.start ≤ length m) × Stands m start (at + y.start) (k + 1)
        pass_opened h =
            let (p, l, u) = head_indefinite (drop at m) x a y g h in
            let n : suc (suc (k - 1)) ≡ k + 1 = omega arith in
            let w : at + y.start ≤ length m = omega (arith, length-drop at m) in
            let q : after (left_open S.turns) (suc (k - 1)) (headed (drop at m)) ≡ left_open S.turns (k + 1) (drop (at + y.start) m) =
            rw (p, drop-drop y.start at m, n) refl in
            (omega arith, w, turn (at + y.start) (k + 1) (omega arith) w (onward ∙ q))

-- an item whose identifier ends at a place
module _ (m : List ℕ) (from : ℕ) where
  abbrev rest : List ℕ
  rest = after (left_open (suc (length m))) 0 (read_length 0 (drop from m))

  rest_left : Left m rest
  rest_left =
      after_left m (left_open (suc (length m))) 0 (read_length 0 (drop from m)) (open_left (suc (length m)))
      λ z w x. let (p, e, low, high, room) = length_rest m from 0 z w x in ((p, e, high), room)

  -- its end, by the code's answers
  module _ (x : Result Extent ReadingCause) (b : (l : ℕ) → x ≡ told_length (length m) (read_length l (drop from m))) where
    pub skip_none : (f : ReadingCause) → x ≡ Err f → length m ≡ item_end m from
    unfolding item_end
    skip_none f d = rw (length_refused m from 0 x (b 0) f d) (omega arith)

    module _ (y : Extent) (g : x ≡ Ok y) where
      pub skip_sized : y.indefinite ≡ false → y.end ≡ item_end m from
      unfolding item_end left_open
      skip_sized h =
          let (q, low, k, u) = length_definite m from 0 x (b 0) y g h in
          let j : y.start + (y.end - y.start) ≡ y.end = omega arith in
          rw (q, drop-drop (y.end - y.start) y.start m, j) (sym (left_at m y.end u))

      pub skip_indefinite : y.indefinite ≡ true → open_end m y.start ≡ item_end m from
      unfolding item_end open_end
      skip_indefinite h = let (q, low, k, u) = length_indefinite m from 0 x (b 0) y g h in rw q refl

  -- it lies in m, after the identifier
  end_high : item_end m from ≤ length m
  unfolding item_end
  end_high = omega arith

  end_low : min from (length m) ≤ item_end m from
  unfolding item_end
  end_low = by (read_length 0 (drop from m)) refl
    where
      by : (x : Answer ReadingCause Size) → read_length 0 (drop from m) ≡ x → min from (length m) ≤ length m - length (after (left_open (suc (length m))) 0 x)
      by (got (definite n) w) e =
          let (p, f, low, high, room) = length_rest m from 0 (definite n) w e in
          omega (arith, left_few (open_left (suc (length m)) 0 (drop n w)), length-drop n w, ap length f, length-drop p m)
      by (got indefinite w) e =
          let (p, f, low, high, room) = length_rest m from 0 indefinite w e in
          omega (arith, left_few (open_left (suc (length m)) 1 w), ap length f, length-drop p m)
      by (refused c l) e = omega arith

  -- after it stands what is left when the item is passed over
  end_skips : (w : List ℕ) → Skips m from w → drop (item_end m from) m ≡ w
  unfolding item_end left_open
  end_skips w s = left_back m rest rest_left ∙ is s
    where
      is : {w : List ℕ} → Skips m from w → rest ≡ w
      is (sized l n r e) = rw (length_anywhere l 0 (drop from m) e) refl
      is (unsized l {r} e p) =
          let q = length_anywhere l 0 (drop from m) e in
          let (i, f, low, high, room) = length_rest m from 0 indefinite r q in
          rw q (passed_left p (length m) (omega (arith, ap length f, length-drop i m)))

  pub item_ends : {r : ℕ} → r ≡ item_end m from → (min from (length m) ≤ r) × (r ≤ length m) × ((w : List ℕ) → Skips m from w → drop r m ≡ w)
  item_ends e = rw e (end_low, end_high, end_skips)
