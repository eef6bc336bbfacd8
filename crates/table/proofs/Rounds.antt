-- What a rule finds, round after round: nothing but what follows from it, and after n rounds nothing is left to be found.
-- Assumes nothing.
use mathlib.Core.Bool.{Bool, true, false, ◌||◌, false≢true}
use mathlib.Core.List.{List, [], ◌∷◌}
use mathlib.Core.Logic.{◌⊎◌, inl, inr, ⊎_elim}
use mathlib.Core.Path.{◌≡◌, refl, sym, ap, ◌∙◌}
use Prim.Native.Nat.{ℕ, zero, suc, ◌+◌, ◌≤◌, ◌<◌}
use native.Mathlib.Nat.{zero-add}
use native.Mathlib.Omega.{arith}
use lib.Dec.{ltb}
use lib.ListN.{length, get_or, replicate, length-replicate, get_or-eq_default}
use borrow.Author.Tests.{ltb-true, ltb-false}
use Rattle.octets.proofs.Tests.{test}
use Rattle.octets.proofs.Members.{or_cases, or_left, or_right}
use Rattle.octets.proofs.Tabulate.{length_tabulate, get_or_tabulate}
use Rattle.table.specs.Decide.{Step, round, rounds, found}

-- how many are not marked
blank : List Bool → ℕ
blank [] = 0
blank (true ∷ v) = blank v
blank (false ∷ v) = suc (blank v)

blank_length : (v : List Bool) → blank v ≤ length v
unfolding blank
blank_length [] = omega arith
blank_length (true ∷ v) = omega (arith, blank_length v)
blank_length (false ∷ v) = omega (arith, blank_length v)

none_blank : (v : List Bool) → blank v ≡ 0 → (i : ℕ) → i < length v → get_or v i false ≡ true
unfolding blank
none_blank [] e i h = absurd (omega arith)
none_blank (true ∷ v) e zero h = refl
none_blank (true ∷ v) e (suc i) h = none_blank v e i (omega arith)
none_blank (false ∷ v) e i h = absurd (omega arith)

-- marks to which others came are the same, or more
more_or_same : (v w : List Bool) → length v ≡ length w → ((i : ℕ) → get_or v i false ≡ true → get_or w i false ≡ true) → (v ≡ w) ⊎ (blank w < blank v)
unfolding blank
more_or_same [] [] l h = inl refl
more_or_same [] (y ∷ w) l h = absurd (omega arith)
more_or_same (x ∷ v) [] l h = absurd (omega arith)
more_or_same (true ∷ v) (true ∷ w) l h =
    ⊎_elim (λ e. inl (ap {B = List Bool} (λ r. true ∷ r) e)) (λ m. inr m) (more_or_same v w (omega arith) (λ i. h (suc i)))
more_or_same (true ∷ v) (false ∷ w) l h = absurd (false≢true (h 0 refl))
more_or_same (false ∷ v) (true ∷ w) l h =
    ⊎_elim (λ (e : v ≡ w). inr (rw e (omega arith))) (λ m. inr (omega arith)) (more_or_same v w (omega arith) (λ i. h (suc i)))
more_or_same (false ∷ v) (false ∷ w) l h =
    ⊎_elim (λ e. inl (ap {B = List Bool} (λ r. false ∷ r) e)) (λ m. inr (omega arith)) (more_or_same v w (omega arith) (λ i. h (suc i)))

unmarked : (n t : ℕ) → get_or (replicate n false) t false ≡ false
unmarked zero t = refl
unmarked (suc n) zero = refl
unmarked (suc n) (suc t) = unmarked n t

module _ (step : Step) (n : ℕ) where
  round_size : (v : List Bool) → length (round step n v) ≡ n
  unfolding round
  round_size v = length_tabulate _ 0 n

  rounds_size : (k : ℕ) → length (rounds step n k) ≡ n
  unfolding rounds
  rounds_size zero = length-replicate n false
  rounds_size (suc k) = round_size (rounds step n k)

  round_at : (v : List Bool) (t : ℕ) → t < n → get_or (round step n v) t false ≡ (get_or v t false || step (λ u. get_or v u false) t)
  unfolding round
  round_at v t h = rw zero-add at (get_or_tabulate (λ t. get_or v t false || step (λ u. get_or v u false) t) 0 n t false h)

  round_beyond : (v : List Bool) (t : ℕ) → n ≤ t → get_or (round step n v) t false ≡ false
  round_beyond v t h = get_or-eq_default (round step n v) false {n = t} (rw round_size h)

  round_keeps : (v : List Bool) → length v ≡ n → (t : ℕ) → get_or v t false ≡ true → get_or (round step n v) t false ≡ true
  round_keeps v l t e =
      test (ltb t n) (λ i. rw (round_at v t (ltb-true t n i)) (or_left _ _ e)) λ i.
      absurd (false≢true (sym (get_or-eq_default v false {n = t} (omega (arith, ltb-false t n i))) ∙ e))

  -- the marks no longer change
  abbrev Still : List Bool → Type 0
  Still v = round step n v ≡ v

  still_or_more : (k : ℕ) → Still (rounds step n k) ⊎ (k + blank (rounds step n k) ≤ n)
  unfolding rounds
  still_or_more zero = inr (omega (arith, blank_length (replicate n false), length-replicate n false))
  still_or_more (suc k) =
      let v = rounds step n k in
      ⊎_elim (λ (e : Still v). inl (ap (round step n) e))
      (λ (m : k + blank v ≤ n). ⊎_elim (λ (e : v ≡ round step n v). inl (ap (round step n) (sym e))) (λ (l : blank (round step n v) < blank v). inr (omega arith))
      (more_or_same v (round step n v) (rounds_size k ∙ sym (round_size v)) (round_keeps v (rounds_size k))))
      (still_or_more k)

  -- nothing new is found after n rounds
  pub rounds_closed : (t : ℕ) → t < n → step (λ u. get_or (rounds step n n) u false) t ≡ true → found step n t ≡ true
  unfolding found
  rounds_closed t h e =
      let v = rounds step n n in
      ⊎_elim (λ (s : Still v). ap (λ w. get_or w t false) (sym s) ∙ rw (round_at v t h) (or_right (get_or v t false) _ e))
      (λ (m : n + blank v ≤ n). none_blank v (omega arith) t (rw rounds_size h))
      (still_or_more n)

  module _ (P : ℕ → Type 0) (follows : (m : ℕ → Bool) → ((u : ℕ) → m u ≡ true → P u) → (t : ℕ) → step m t ≡ true → P t) where
    round_sound : (v : List Bool) → ((t : ℕ) → get_or v t false ≡ true → P t) → (t : ℕ) → get_or (round step n v) t false ≡ true → P t
    round_sound v h t e =
        test (ltb t n) (λ i. ⊎_elim (h t) (follows (λ u. get_or v u false) h t) (or_cases _ _ (rw (round_at v t (ltb-true t n i)) at e))) λ i.
        absurd (false≢true (sym (round_beyond v t (ltb-false t n i)) ∙ e))

    sound_to : (k t : ℕ) → get_or (rounds step n k) t false ≡ true → P t
    unfolding rounds
    sound_to zero t e = absurd (false≢true (sym (unmarked n t) ∙ e))
    sound_to (suc k) t e = round_sound (rounds step n k) (sound_to k) t e

    -- what holds of all that the rule finds from others of which it holds, holds of what is found
    pub rounds_sound : (t : ℕ) → found step n t ≡ true → P t
    unfolding found
    rounds_sound t e = sound_to n t e
