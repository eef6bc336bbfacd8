-- Explicit tags that are opened one after another and closed again: what the code's answers and notes say of reading under them.
-- Assumes nothing.
use borrow.Author.Tests.{eq-eqb, ne_eqb, eqb-true}
use lib.Dec.{eqb}
use lib.ListN.{length, get_or, take, drop, length-drop}
use lib.Seq.{take-suc, length-take-le}
use mathlib.Core.Bool.{Bool, true, false}
use mathlib.Core.List.{List, [], ◌∷◌, ◌++◌}
use mathlib.Core.Path.{◌≡◌, refl, sym, ap, ◌∙◌}
use native.Mathlib.Omega.{arith}
use Prim.Native.Nat.{ℕ, suc, ◌+◌, ◌-◌, ◌*◌, ◌/◌, ◌%◌, ◌≤◌, ◌<◌}
use Rattle.std.specs.Prelude.{Option, Some, None, Result, Ok, Err}
use Rattle.x690.specs.declared.ReadingCause.{ReadingCause}
use Rattle.x690.specs.declared.Unread.{Unread}
use Rattle.x690.specs.declared.ReadingCause.TheVariants.{Trailing}
use Rattle.octets.specs.Answer.{Answer, got, refused, then, if, behind, none_left}
use Rattle.ber.specs.Told.{end_of, mode}
use Rattle.ber.proofs.Ends.{end_more, end_over, end_broken}
use Rattle.reader.specs.Answers.{cap, judged, unread, told}
use Rattle.reader.specs.Wraps.{ended, shut, inner_end, closing, note_of, Around}
use Rattle.reader.specs.declared.answer.Judged.{Judged}

pub around_end : (n : ℕ) (ns : List ℕ) (e : ℕ) → Around n ns e → e ≤ n
unfolding Around inner_end
around_end n [] e a = omega arith
around_end n (k ∷ ns) e a = let h = around_end (inner_end ns e) ns e a.3 in omega (arith, a.1)

-- the innermost note, which is the last
inner_last : (ns : List ℕ) (n e : ℕ) → inner_end (ns ++ (n ∷ [])) e ≡ inner_end ns (n / 2)
unfolding inner_end
inner_last [] n e = refl
inner_last (k ∷ ns) n e = refl

pub closing_last : {A : Type 0} (m ns : List ℕ) (n e : ℕ) (x : Answer ReadingCause A)
    → closing m (ns ++ (n ∷ [])) e x ≡ closing m ns (n / 2) (shut m (n / 2) e (eqb (n % 2) 1) x)
unfolding closing inner_end
closing_last m [] n e x = refl
closing_last m (k ∷ ns) n e x = rw (inner_last ns n e, closing_last m ns n e x) refl

pub around_more : (l : ℕ) (ns : List ℕ) (n e : ℕ) → Around l ns (n / 2) → e ≤ n / 2 → (n % 2 ≡ 1 → e ≡ n / 2) → Around l (ns ++ (n ∷ [])) e
unfolding Around inner_end
around_more l [] n e a b c = (sym a, omega arith, (λ o. c o ∙ sym a), refl)
around_more l (k ∷ ns) n e a b c = rw (inner_last ns n e) (a.0, a.1, a.2, around_more (inner_end ns (n / 2)) ns n e a.3 b c)

around_last : (l : ℕ) (ns : List ℕ) (n e : ℕ) → Around l (ns ++ (n ∷ [])) e → Around l ns (n / 2) × (e ≤ n / 2) × (n % 2 ≡ 1 → e ≡ n / 2)
unfolding Around inner_end
around_last l [] n e a = (sym a.0, omega (arith, a.0, a.1), λ o. a.2 o ∙ sym a.0)
around_last l (k ∷ ns) n e a =
    let b = rw (inner_last ns n e) at a in
    let c = around_last (inner_end ns (n / 2)) ns n e b.3 in
    ((b.0, b.1, b.2, c.0), c.1, c.2)

-- a refusal under a tag, and under all
shut_broken : {A : Type 0} (m : List ℕ) (outer inner : ℕ) (k : Bool) (x : Answer ReadingCause A) (c : ReadingCause) (l : ℕ) → ended (mode k) x ≡ refused c l → inner ≤ outer
    → (k ≡ true → inner ≡ outer)
    → shut m outer inner k x ≡ refused c (l + (outer - inner))
unfolding shut then behind
shut_broken m outer inner true x c l e h o = let q : l ≡ l + (outer - inner) = omega (arith, o refl) in e ∙ ap (refused c) q
shut_broken m outer inner false x c l e h o = rw e refl

pub closing_refused : {A : Type 0} (m : List ℕ) (n : ℕ) (ns : List ℕ) (e : ℕ) (c : ReadingCause) (l : ℕ) → Around n ns e
    → closing {A = A} m ns e (refused c l) ≡ refused c (l + (n - e))
unfolding closing Around ended then
closing_refused m n [] e c l a = let q : l ≡ l + (n - e) = omega arith in ap (refused c) q
closing_refused m n (k ∷ ns) e c l a =
    let b = around_end (inner_end ns e) ns e a.3 in
    let i = inner_end ns e in
    let q : l + (i - e) + (k / 2 - i) ≡ l + (n - e) = omega (arith, a.0, a.1) in
    ap (shut m (k / 2) i (eqb (k % 2) 1)) (closing_refused m i ns e c l a.3)
    ∙ shut_broken m (k / 2) i (eqb (k % 2) 1) (refused c (l + (i - e))) c (l + (i - e)) refl (omega (arith, a.0, a.1)) (λ o. a.2 (eqb-true (k % 2) 1 o) ∙ sym a.0)
    ∙ ap (refused c) q

pub note_half : (e : ℕ) (k : Bool) → note_of e k / 2 ≡ e
note_half e true = omega arith
note_half e false = omega arith

pub note_mark : (e : ℕ) (k : Bool) → eqb (note_of e k % 2) 1 ≡ k
note_mark e true = eq-eqb ((2 * e + 1) % 2) 1 (omega arith)
note_mark e false = ne_eqb (2 * e % 2) 1 (λ z. omega arith)

-- behind the one item under a tag
shut_over : {A : Type 0} (m : List ℕ) (outer inner : ℕ) (k : Bool) (x : Answer ReadingCause A) (a : A) (u : ℕ) → ended (mode k) x ≡ got a (drop u (take inner m))
    → (k ≡ true → inner ≡ outer)
    → (k ≡ false → u ≡ inner) → shut m outer inner k x ≡ got a (drop u (take outer m))
unfolding shut then behind
shut_over m outer inner true x a u e o z = e ∙ ap (λ (i : ℕ). got a (drop u (take i m))) (o refl)
shut_over m outer inner false x a u e o z = rw (e, z refl) refl

abbrev EndsAt : ℕ → Result (Option ℕ) ReadingCause → Type 0
EndsAt n (Ok None) = Unit {0}
EndsAt n (Ok (Some u)) = u ≡ n
EndsAt n (Err c) = Unit {0}

closed_end : (n : ℕ) (s : List ℕ) → EndsAt n (end_of false n s)
unfolding end_of if none_left
closed_end n [] = refl
closed_end n (b ∷ s) = tt

-- the tags that are closed: j notes are left, and the item ends at `at` in octets that end at `end`
pub record Closing (m notes : List ℕ) (count last first size at end j : ℕ) : Type 0 where
  pub around : Around (length m) (take j notes) end
  pub whole : closing m (take count notes) last (got size (drop first (take last m))) ≡ closing m (take j notes) end (got size (drop at (take end m)))

module _ (m notes : List ℕ) (count last first size : ℕ) where
  abbrev pub Told : Result Judged Unread
  Told = told m (λ (n : ℕ). n) (closing m (take count notes) last (got size (drop first (take last m))))

  pub close_none : Around (length m) (take count notes) last → Closing m notes count last first size first last count
  close_none a = record { around = a; whole = refl }

  module _ (at end j : ℕ) (S : Closing m notes count last first size at end j) where
    pub close_end : end ≤ length m
    close_end = around_end (length m) (take j notes) end S.around

    pub close_done : j ≤ 0 → at ≤ end → size < 16386 → judged at size ≡ Told
    unfolding told closing Around
    close_done z h g =
        let q : j ≡ 0 = omega arith in
        let T : Closing m notes count last first size at end 0 = rw q at S in
        let l : length m - length (drop at (take end m)) ≡ at = omega (arith, T.around, length-drop at (take end m), length-take-le end m close_end) in
        let c : cap size ≡ size = omega arith in
        rw (T.whole, l, c) refl

    module _ (h : at ≤ end) (some : 0 < j) (room : j ≤ length notes) (n : ℕ) (en : n ≡ get_or notes (j - 1) 0) where
      last_note : take j notes ≡ take (j - 1) notes ++ (n ∷ [])
      last_note =
          let q : j ≡ suc (j - 1) = omega arith in
          ap (λ (i : ℕ). take i notes) q ∙ rw en (take-suc notes (j - 1) 0 (omega arith))

      wider : Around (length m) (take (j - 1) notes) (n / 2) × (end ≤ n / 2) × (n % 2 ≡ 1 → end ≡ n / 2)
      wider = around_last (length m) (take (j - 1) notes) n end (rw last_note at S.around)

      pub close_near : n / 2 ≤ length m
      close_near = around_end (length m) (take (j - 1) notes) (n / 2) wider.0

      module _ (k : Bool) (ek : k ≡ eqb (n % 2) 1) (r : Result (Option ℕ) ReadingCause) (er : r ≡ end_of k (length (take end m)) (drop at (take end m))) where
        whole_end : k ≡ true → end ≡ n / 2
        whole_end t = wider.2 (eqb-true (n % 2) 1 (sym ek ∙ t))

        stands : closing m (take count notes) last (got size (drop first (take last m)))
            ≡ closing m (take (j - 1) notes) (n / 2) (shut m (n / 2) end k (got size (drop at (take end m))))
        stands =
            S.whole ∙ ap (λ (ns : List ℕ). closing m ns end (got size (drop at (take end m)))) last_note
            ∙ closing_last m (take (j - 1) notes) n end (got size (drop at (take end m))) ∙ rw ek refl

        size_part : length (take end m) ≡ end
        size_part = length-take-le end m close_end

        inside_part : at ≤ length (take end m)
        inside_part = omega (arith, size_part)

        left_part : length (drop at (take end m)) ≡ end - at
        left_part = length-drop at (take end m) ∙ ap (λ (i : ℕ). i - at) size_part

        broken : (c : ReadingCause) → ended (mode k) (got size (drop at (take end m))) ≡ refused c (length (drop at (take end m)))
            → unread c (length m - at) ≡ Told
        unfolding told
        broken c e =
            let (a, b, o) = wider in
            let f = close_near in
            let q : end - at + (n / 2 - end) + (length m - n / 2) ≡ length m - at = omega arith in
            rw (
              stands,
              shut_broken m (n / 2) end k _ c (end - at) (e ∙ ap (refused c) left_part) b whole_end,
              closing_refused {A = ℕ} m (length m) (take (j - 1) notes) (n / 2) c (end - at + (n / 2 - end)) a,
              q,
            ) refl

        pub close_more : r ≡ Ok None → unread Trailing (length m - at) ≡ Told
        unfolding ended then if
        close_more d = broken Trailing (end_more {A = ℕ} (λ w. got size w) (λ _. refused Trailing (length (drop at (take end m)))) (take end m) at k r er d).0

        pub close_broken : (c : ReadingCause) → r ≡ Err c → unread c (length m - at) ≡ Told
        unfolding ended then
        close_broken c d =
            broken c (end_broken {A = ℕ} (λ w. got size w) (λ _. refused Trailing (length (drop at (take end m)))) (take end m) at k r c er d)

        pub close_turn : (u : ℕ) → r ≡ Ok (Some u) → Closing m notes count last first size u (n / 2) (j - 1) × (u ≤ n / 2)
        unfolding ended then
        close_turn u d =
            let (y, b, g) = end_over {A = ℕ} (λ w. got size w) (λ _. refused Trailing (length (drop at (take end m)))) (take end m) at k r u inside_part er d in
            let (a, f, o) = wider in
            let z : k ≡ false → u ≡ end = λ t. rw (← t, ← er, d) at (closed_end (length (take end m)) (drop at (take end m))) ∙ size_part in (
              record {
                around = a;
                whole = stands ∙ ap (closing m (take (j - 1) notes) (n / 2)) (shut_over m (n / 2) end k (got size (drop at (take end m))) size u y whole_end z);
              },
              omega (arith, size_part),
            )
