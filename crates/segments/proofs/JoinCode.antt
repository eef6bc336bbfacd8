-- Laws of the code that joins segments by headers alone: what can be gathered is joined, and the walk of the code, turn by turn.
-- Assumes nothing.
use borrow.Author.Tests.{leb-true, leb-false, lt-ltb, le-ltb, le-leb, ne_eqb}
use mathlib.Core.Bool.{true, false}
use mathlib.Core.List.{List, [], ◌∷◌, ◌++◌}
use mathlib.Core.Path.{◌≡◌, refl, ap, ◌∙◌}
use native.Mathlib.Nat.{add-zero}
use native.Mathlib.Omega.{arith}
use Prim.Native.Nat.{ℕ, zero, suc, ◌+◌, ◌-◌, ◌≤◌, ◌<◌, min}
use lib.Dec.{leb}
use lib.ListN.{length, get_or, take, drop, length-append, length-drop}
use lib.Seq.{drop-drop}
use Rattle.std.specs.Prelude.{Result, Ok, Err}
use Rattle.x690.specs.declared.ReadingCause.{ReadingCause}
use Rattle.octets.specs.Answer.{got, if, none_left}
use Rattle.octets.specs.Buffers.{put, put_end}
use Rattle.octets.proofs.Buffers.{put_roomy, put_end_lem}
use Rattle.octets.proofs.Tests.{test}
use Rattle.x690.specs.Reading.{definite, read_length}
use Rattle.x690.specs.Segments.{Kind, bit_string, octet_string, universal, empty, join}
use Rattle.ber.specs.Told.{told_length}
use Rattle.segments.specs.Segments.{unused_in, carried, Gathers, behind_all, at_the_end, closes, enters, opens, adds, IsJoined}
use Rattle.segments.specs.Segments.{Way, on_to, with_put, enter, walk, joining, told_joined}
use Rattle.ber.specs.declared.length.Extent.{Extent}
use Rattle.segments.specs.declared.Joined.{Joined}
use Rattle.ber.proofs.Headers.{put_behind}
use Rattle.ber.proofs.Places.{left_at, none_at, some_at, Left, left_all, left_of, left_back}
use Rattle.segments.proofs.SegmentCode.{unused_none, unused_join}
use Rattle.ber.proofs.Told.{length_rest, length_definite, length_indefinite, length_refused}

universal_some : (k : Kind) → 0 < universal k
universal_some bit_string = omega arith
universal_some octet_string = omega arith

universal_low : (k : Kind) → universal k < 32
universal_low bit_string = omega arith
universal_low octet_string = omega arith

pub carried_empty : (k : Kind) → carried k (empty k) ≡ []
unfolding carried empty
carried_empty bit_string = refl
carried_empty octet_string = refl

pub carried_join : (k : Kind) (c d : List ℕ) → carried k (join k c d) ≡ carried k c ++ carried k d
unfolding carried join
carried_join bit_string c d = refl
carried_join octet_string c d = refl

-- what is gathered never gets less
gather_more : {k : Kind} {n : ℕ} {a s c w : List ℕ} → Gathers k n a s c w → length (carried k a) ≤ length (carried k c)
gather_more behind_all = omega arith
gather_more at_the_end = omega arith
gather_more (closes p) = gather_more p
gather_more (enters e p) = gather_more p
gather_more (opens e p) = gather_more p
gather_more {k} {a = a} (adds {z = z} {r = r} e p) =
    let h = gather_more p in
    let l = ap length (carried_join k a (take z r)) ∙ length-append (carried k a) (carried k (take z r)) in
    omega arith

-- a way, by its parts
abbrev way : List ℕ → List ℕ → ℕ → ℕ → Way
way s buf next unused = record { left = s; buffer = buf; next = next; unused = unused }

walk_none : (k : Kind) (t n : ℕ) (x : Way) → walk k t n (on_to [] x) ≡ on_to [] x
unfolding walk if none_left
walk_none k zero n x = refl
walk_none k (suc t) zero x = refl
walk_none k (suc t) (suc n) x = refl

-- by the first octet
module _ (k : Kind) (t n b : ℕ) (s buf : List ℕ) (next unused : ℕ) where
  walk_close : b ≡ 0 → walk k (suc t) (suc n) (way (b ∷ s) buf next unused) ≡ walk k t n (way (drop 1 s) buf next unused)
  unfolding walk if none_left
  walk_close z = rw z refl

  walk_enter : (b ≡ 0 → ⊥)
      → walk k (suc t) (suc n) (way (b ∷ s) buf next unused) ≡ enter k (walk k t) b (suc n) (way (b ∷ s) buf next unused) (read_length 0 s)
  unfolding walk if none_left
  walk_enter z = rw (ne_eqb b 0 z) refl

-- What can be gathered and has room is joined to it.
module _ (k : Kind) (buf : List ℕ) (to : ℕ) where
  -- the way where a was gathered, and s is left
  abbrev held : List ℕ → List ℕ → Way
  held a s = way s (put buf to (carried k a)) (put_end buf to (carried k a)) (unused_in k a)

  held_none : (s : List ℕ) → to ≤ length buf → way s buf to 0 ≡ held (empty k) s
  held_none s h = rw (carried_empty k, unused_none k, le-leb (to + 0) (length buf) (omega arith), add-zero to) refl

  held_more : (a d s u : List ℕ) → to + length (carried k (join k a d)) ≤ length buf → with_put k d s (held a u) ≡ held (join k a d) s
  held_more a d s u room =
      let (x, y) = put_behind buf to (carried k a) (carried k d) (rw carried_join at room) _ _ refl refl in
      rw (x, y, unused_join k a d, carried_join k a d) refl

  added : (t n z : ℕ) (a s r : List ℕ) → read_length 0 s ≡ got (definite z) r → to + length (carried k (join k a (take z r))) ≤ length buf
      → walk k (suc (suc t)) (suc n) (held a (universal k ∷ s)) ≡ walk k (suc t) (suc n) (held (join k a (take z r)) (drop z r))
  unfolding if
  added t n z a s r e g =
      walk_enter k (suc t) n (universal k) s _ _ _ (λ y. omega (arith, universal_some k))
      ∙ rw (e, lt-ltb (universal k) 32 (universal_low k)) (ap (walk k (suc t) (suc n)) (held_more a (take z r) (drop z r) (universal k ∷ s) g))

  gathered : {n : ℕ} {a s c w : List ℕ} → Gathers k n a s c w → to + length (carried k c) ≤ length buf → (t : ℕ) → length s ≤ t
      → walk k (suc t) n (held a s) ≡ held c w
  unfolding walk if none_left
  gathered behind_all room t h = refl
  gathered at_the_end room t h = refl
  gathered (closes p) room zero h = absurd (omega arith)
  gathered (closes p) room (suc t) h = gathered p room t (omega arith)
  gathered (enters e p) room zero h = absurd (omega arith)
  gathered (enters {s = s} {r = r} e p) room (suc t) h =
      let (q, f, low, high, o) = length_rest s 0 0 _ r (e 0) in
      rw (ne_eqb (universal k + 32) 0 (λ y. omega arith), e 0, le-ltb (universal k + 32) 32 (omega arith))
      (gathered p room t (omega (arith, ap length f, length-drop q s)))
  gathered (opens e p) room zero h = absurd (omega arith)
  gathered (opens {s = s} {r = r} e p) room (suc t) h =
      let (q, f, low, high, o) = length_rest s 0 0 _ r (e 0) in
      rw (ne_eqb (universal k + 32) 0 (λ y. omega arith), e 0, le-ltb (universal k + 32) 32 (omega arith))
      (gathered p room t (omega (arith, ap length f, length-drop q s)))
  gathered (adds e p) room zero h = absurd (omega arith)
  gathered (adds {n = n} {z = z} {a = a} {s = s} {r = r} e p) room (suc t) h =
      let (q, f, low, high, o) = length_rest s 0 0 _ r (e 0) in
      let g : to + length (carried k (join k a (take z r))) ≤ length buf = omega (arith, gather_more p) in
      added t n z a s r (e 0) g ∙ gathered p room t (omega (arith, ap length f, length-drop q s, length-drop z r))

-- what is left after it is an end of the octets
gather_left : {k : Kind} {n : ℕ} {a s c w : List ℕ} → Gathers k n a s c w → Left s w
gather_left (behind_all {w = w}) = left_all w
gather_left at_the_end = left_all []
gather_left (closes {s = s} p) = left_of (0 ∷ 0 ∷ s) 2 refl (omega arith) (gather_left p)
gather_left {k} (enters {s = s} {r = r} e p) =
    let (q, f, low, high, o) = length_rest s 0 0 _ r (e 0) in left_of ((universal k + 32) ∷ s) (suc q) f (omega arith) (gather_left p)
gather_left {k} (opens {s = s} {r = r} e p) =
    let (q, f, low, high, o) = length_rest s 0 0 _ r (e 0) in left_of ((universal k + 32) ∷ s) (suc q) f (omega arith) (gather_left p)
gather_left {k} (adds {z = z} {s = s} {r = r} e p) =
    let (q, f, low, high, o) = length_rest s 0 0 _ r (e 0) in
    left_of (universal k ∷ s) (suc q) f (omega arith) (left_of r z refl o (gather_left p))

-- so the code's answer says what was gathered
pub join_is : {k : Kind} {m buf : List ℕ} {to : ℕ} {last : List ℕ} {r : Joined}
    → (let x = joining k m buf to in (r ≡ told_joined (length m) x) × (last ≡ x.buffer))
    → (c w : List ℕ) → Gathers k 1 (empty k) m c w → to + length (carried k c) ≤ length buf → IsJoined k m buf to c w last r
unfolding joining
join_is {k} {m} {buf} {to} {last} {r} (e, f) c w g room =
    let x : joining k m buf to ≡ held k buf to c w = ap (walk k (suc (length m)) 1) (held_none k buf to m (omega arith)) ∙ gathered k buf to g room (length m) (omega arith) in
    let y : r ≡ told_joined (length m) (held k buf to c w) = e ∙ ap (told_joined (length m)) x in
    record {
      within = rw y (omega arith);
      behind = rw y (left_back m w (gather_left g));
      next = rw y (put_end_lem buf to (carried k c) room);
      unused = rw y refl;
      put = f ∙ ap (λ (x : Way). x.buffer) x ∙ put_roomy buf to (carried k c) room;
    }

-- the loop: what is left of the way
pub record Joins (k : Kind) (m buf₀ : List ℕ) (to : ℕ) (buf : List ℕ) (at next unused n : ℕ) : Type 0 where
  pub turns : ℕ
  pub enough : length (drop at m) ≤ turns
  pub whole : joining k m buf₀ to ≡ walk k (suc turns) n (way (drop at m) buf next unused)

abbrev Answers : Kind → List ℕ → List ℕ → ℕ → List ℕ → Joined → Type 0
Answers k m buf₀ to buf r = let x = joining k m buf₀ to in (r ≡ told_joined (length m) x) × (buf ≡ x.buffer)

pub joins_first : (k : Kind) (m buf : List ℕ) (to : ℕ) → Joins k m buf to buf 0 to 0 1
unfolding joining
joins_first k m buf to = record { turns = length m; enough = omega arith; whole = refl }

module _ {k : Kind} {m buf₀ : List ℕ} {to : ℕ} {buf : List ℕ} {at next unused n : ℕ} (J : Joins k m buf₀ to buf at next unused n) where
  -- at the end
  ended : (e : ℕ) → e ≤ length m → joining k m buf₀ to ≡ way (drop e m) buf next unused → Answers k m buf₀ to buf (record { end = e; next = next; unused = unused })
  ended e h q = rw (q, left_at m e h) (refl, refl)

  pub joins_none : at ≤ length m → n ≡ 0 → Answers k m buf₀ to buf (record { end = at; next = next; unused = unused })
  unfolding walk
  joins_none h z = ended at h (rw z at J.whole)

  module _ (o : 0 < n) where
    counted : n ≡ suc (n - 1)
    counted = omega arith

    pub joins_over : at ≤ length m → length m ≤ at → Answers k m buf₀ to buf (record { end = at; next = next; unused = unused })
    joins_over h i =
        let x = none_at m at i in
        ended at h (J.whole ∙ rw x (walk_none k (suc J.turns) n (way [] buf next unused)))

    module _ (there : at < length m) where
      standing : joining k m buf₀ to ≡ walk k (suc J.turns) (suc (n - 1)) (way (get_or m at 0 ∷ drop (at + 1) m) buf next unused)
      standing = rw (counted, some_at m at there) at J.whole

      -- a turn to a further place
      turn : {last : List ℕ} {after count : ℕ} (further j : ℕ) → at < further → further ≤ length m
          → joining k m buf₀ to ≡ walk k J.turns j (way (drop further m) last after count) → Joins k m buf₀ to last further after count j
      turn {last} {after} {count} further j low high e =
          let l = length-drop at m in
          let i = J.enough in
          let t : J.turns ≡ suc (J.turns - 1) = omega arith in
          record {
            turns = J.turns - 1;
            enough = omega (arith, length-drop further m);
            whole = e ∙ ap (λ (t : ℕ). walk k t j (way (drop further m) last after count)) t;
          }

      module _ (z : get_or m at 0 ≡ 0) where
        closed : joining k m buf₀ to ≡ walk k J.turns (n - 1) (way (drop (at + 2) m) buf next unused)
        closed =
            let e : at + 1 + 1 ≡ at + 2 = omega arith in
            standing ∙ walk_close k J.turns (n - 1) (get_or m at 0) (drop (at + 1) m) buf next unused z ∙ rw (drop-drop 1 (at + 1) m, e) refl

        -- of 00 00 the second octet may be lacking
        pub joins_mark : (e : ℕ) → e ≡ min (length m) (at + 2) → Joins k m buf₀ to buf e next unused (n - 1)
        joins_mark e f =
            let q : drop (at + 2) m ≡ drop e m =
            test (leb (at + 2) (length m))
            (λ t. let g : at + 2 ≡ e = omega (arith, leb-true (at + 2) (length m) t) in rw g refl)
            λ t. let g = leb-false (at + 2) (length m) t in rw (none_at m (at + 2) (omega arith), none_at m e (omega arith)) refl in
            turn e (n - 1) (omega arith) (omega arith) (rw q at closed)

      module _ (z : get_or m at 0 ≡ 0 → ⊥) {x : Result Extent ReadingCause} (a : (l : ℕ) → x ≡ told_length (length m) (read_length l (drop (at + 1) m))) where
        abbrev here : Way
        here = way (get_or m at 0 ∷ drop (at + 1) m) buf next unused

        onward : joining k m buf₀ to ≡ enter k (walk k J.turns) (get_or m at 0) (suc (n - 1)) here (read_length 0 (drop (at + 1) m))
        onward = standing ∙ walk_enter k J.turns (n - 1) (get_or m at 0) (drop (at + 1) m) buf next unused z

        pub joins_unread : {f : ReadingCause} {e : ℕ} → x ≡ Err f → e ≡ length m → Answers k m buf₀ to buf (record { end = e; next = next; unused = unused })
        joins_unread {f} {e} r q = ended e (omega arith) (onward ∙ rw (length_refused m (at + 1) 0 x (a 0) f r, none_at m e (omega arith)) refl)

        module _ {y : Extent} (e : x ≡ Ok y) where
          pub joins_further : (at < y.start) × (y.start ≤ y.end) × (y.end ≤ length m)
          joins_further =
              test y.indefinite
              (λ t. let (p, i, j, l) = length_indefinite m (at + 1) 0 x (a 0) y e t in (omega arith, omega arith, omega arith))
              λ t. let (p, i, j, l) = length_definite m (at + 1) 0 x (a 0) y e t in (omega arith, j, l)

          pub joins_entered : 32 ≤ get_or m at 0 → y.indefinite ≡ false → Joins k m buf₀ to buf y.start next unused n
          unfolding if
          joins_entered h t =
              let (low, mid, high) = joins_further in
              let (p, i, j, l) = length_definite m (at + 1) 0 x (a 0) y e t in
              turn y.start n low (omega arith) (onward ∙ rw (p, le-ltb (get_or m at 0) 32 h, ← counted) refl)

          pub joins_opened : 32 ≤ get_or m at 0 → y.indefinite ≡ true → Joins k m buf₀ to buf y.start next unused (n + 1)
          unfolding if
          joins_opened h t =
              let (low, mid, high) = joins_further in
              let (p, i, j, l) = length_indefinite m (at + 1) 0 x (a 0) y e t in
              let q : suc (suc (n - 1)) ≡ n + 1 = omega arith in
              turn y.start (n + 1) low (omega arith) (onward ∙ rw (p, le-ltb (get_or m at 0) 32 h, q) refl)

          -- what a primitive segment carries is put
          module _ (h : get_or m at 0 < 32) where
            abbrev c : List ℕ
            c = take (y.end - y.start) (drop y.start m)

            primitive : joining k m buf₀ to ≡ walk k J.turns n (with_put k c (drop y.end m) here)
            unfolding if
            primitive = test y.indefinite
                (λ t. let (p, i, j, l) = length_indefinite m (at + 1) 0 x (a 0) y e t in
                let q : length (drop y.start m) ≡ y.end - y.start = omega (arith, length-drop y.start m) in
                onward ∙ rw (p, lt-ltb (get_or m at 0) 32 h, q, drop-drop (y.end - y.start) y.start m, ← counted) (rw (back (omega arith)) refl))
                λ t. let (p, i, j, l) = length_definite m (at + 1) 0 x (a 0) y e t in
                onward ∙ rw (p, lt-ltb (get_or m at 0) 32 h, drop-drop (y.end - y.start) y.start m, ← counted) (rw (back j) refl)
              where
                back : y.start ≤ y.end → y.start + (y.end - y.start) ≡ y.end
                back l = omega arith

            pub joins_added : {last : List ℕ} {after count : ℕ} → after ≡ put_end buf next (carried k c) → last ≡ put buf next (carried k c) → count ≡ unused_in k c
                → Joins k m buf₀ to last y.end after count n
            joins_added {last} {after} {count} f l u =
                let (low, mid, high) = joins_further in
                turn y.end n (omega arith) high (primitive ∙ rw (f, l, u) refl)
