-- Laws on the marking of records that have a finite value: what is found one after another, and what the marks tell at the end.
-- Assumes nothing.
use mathlib.Core.Bool.{Bool, true, false, not, false≢true}
use mathlib.Core.List.{List, [], ◌∷◌}
use mathlib.Core.Logic.{◌⊎◌, inl, inr, ⊎_elim}
use mathlib.Core.Path.{◌≡◌, refl, sym, ◌∙◌}
use Prim.Native.Nat.{ℕ, zero, suc, ◌+◌, ◌-◌, ◌≤◌, ◌<◌}
use native.Mathlib.Omega.{arith}
use lib.Dec.{eqb, ltb}
use lib.ListN.{length, get_or, set, length-set, get_or-eq_default}
use lib.Seq.{get_or-set_other}
use borrow.Author.Tests.{eqb-true, eqb-false, ne_eqb, not-false, ltb-false}
use Rattle.std.specs.Prelude.{Option, Some, None}
use Rattle.octets.proofs.Tests.{test}
use Rattle.octets.specs.Lists.{lowest}
use Rattle.octets.specs.Numbers.{if_below}
use Rattle.octets.proofs.Search.{lowest_most, upto}
use Rattle.octets.proofs.Members.{not_both, if_not_true}
use Rattle.table.specs.Syntax.{Table, absent}
use Rattle.table.specs.Rules.{Finite}
use Rattle.table.specs.Decide.{found, finite_body, finite_step, infinite}
use Rattle.table.specs.Walk.{free}
use Rattle.checker.specs.Marks.{is_flagged, Raised, same, one_more, Closed, Looked}
use Rattle.table.proofs.Loops.{lowest_same}
use Rattle.table.proofs.Decided.{body_finite, closed_finite, finite_sound, finite_complete}

pub flagged_beyond : (v : List ℕ) (t : ℕ) → length v ≤ t → is_flagged v t ≡ false
unfolding is_flagged
flagged_beyond v t h = rw (get_or-eq_default v 0 {n = t} h)

-- a record that is marked is one fewer that is free
one_fewer : (v : List ℕ) (t : ℕ) → t < length v → get_or v t 0 ≡ 0 → free (set v t 1) + 1 ≡ free v
unfolding free
one_fewer [] t h e = absurd (omega arith)
one_fewer (x ∷ v) zero h e = rw e (omega arith)
one_fewer (x ∷ v) (suc t) h e = omega (arith, one_fewer v t (omega arith) e)

set_flags : (v : List ℕ) (t u : ℕ) → is_flagged (set v t 1) u ≡ true → (u ≡ t) ⊎ (is_flagged v u ≡ true)
unfolding is_flagged
set_flags v t u e = test (eqb u t) (λ q. inl (eqb-true u t q)) λ q. inr (rw (get_or-set_other v t u 1 0 (eqb-false u t q)) at e)

-- the records from t on, below n
abbrev pub From : ℕ → ℕ → ℕ → Type 0
From t n u = (t ≤ u) × (u < n)

-- the first of them, or a later one
first_or : {X : Type 0} (t n u : ℕ) → From (t - 1) n u → (From t n u → X) → (u ≡ t - 1 → X) → X
first_or t n u h f g = test (eqb u (t - 1)) (λ e. g (eqb-true u (t - 1) e)) λ e. f (omega (arith, h.0, eqb-false u (t - 1) e), h.1)

module _ (T : Table) where
  pub raised_on : {v w x : List ℕ} → Raised T v w → Raised T w x → Raised T v x
  raised_on same s = s
  raised_on (one_more t e r) s = one_more t e (raised_on r s)

  pub raised_size : {v w : List ℕ} → Raised T v w → length w ≡ length v
  raised_size same = refl
  raised_size (one_more {v} t e r) = raised_size r ∙ length-set v t 1

  -- none was looked at
  pub looked_none : (n : ℕ) (v : List ℕ) → Looked T (From n n) v false v
  looked_none n v = record { raised = same; idle = λ q. refl; none = λ q u h. absurd (omega (arith, h.0, h.1)); fewer = λ q. absurd (false≢true q) }

  module _ (t n : ℕ) (v w : List ℕ) (r : Bool) (a : Looked T (From t n) v r w) where
    -- the record before them has a mark, or is not found, or is marked
    looked_past : (r ≡ false → finite_body (is_flagged v) (T (t - 1)).body ≡ true → is_flagged v (t - 1) ≡ true) → Looked T (From (t - 1) n) v r w
    looked_past h = record {
      raised = a.raised;
      idle = a.idle;
      none = λ q u l f. first_or t n u l (λ i. a.none q u i f) (λ i. rw i (h q (rw i at f)));
      fewer = a.fewer;
    }

    pub looked_flagged : (get_or w (t - 1) 0 ≡ 0 → ⊥) → Looked T (From (t - 1) n) v r w
    unfolding is_flagged
    looked_flagged h = looked_past (λ q f. rw (← a.idle q, ne_eqb (get_or w (t - 1) 0) 0 h))

    pub looked_idle : finite_body (is_flagged w) (T (t - 1)).body ≡ false → Looked T (From (t - 1) n) v r w
    looked_idle h = looked_past (λ q f. not_both (finite_body (is_flagged v) (T (t - 1)).body) f (rw (a.idle q) at h))

    pub looked_more : t - 1 < length w → get_or w (t - 1) 0 ≡ 0 → finite_body (is_flagged w) (T (t - 1)).body ≡ true
        → Looked T (From (t - 1) n) v true (set w (t - 1) 1)
    looked_more l z h = record {
      raised = raised_on a.raised (one_more (t - 1) h same);
      idle = λ q. absurd (false≢true (sym q));
      none = λ q. absurd (false≢true (sym q));
      fewer = λ q. omega (arith, one_fewer w (t - 1) l z, not_more);
    }
      where
        not_more : free w ≤ free v
        not_more = test r (λ e. omega (arith, a.fewer e)) λ e. rw (a.idle e) (omega arith)

  pub looked_closed : (n : ℕ) {v w : List ℕ} {r : Bool} → Looked T (λ u. u < n) v r w → r ≡ false → Closed T n w
  looked_closed n l e = rw (l.idle e) (l.none e)

  -- marks that were put on one after another are on records that have a finite value
  pub raised_finite : {v w : List ℕ} → Raised T v w → ((t : ℕ) → is_flagged v t ≡ true → Finite T t) → (t : ℕ) → is_flagged w t ≡ true → Finite T t
  raised_finite same h = h
  raised_finite (one_more {v} t e r) h =
      raised_finite r (λ u f. ⊎_elim (λ (q : u ≡ t). rw q (body_finite T (is_flagged v) h t (T t).body refl e)) (h u) (set_flags v t u f))

-- marks that were put on one after another, from none
module _ (T : Table) (n : ℕ) (beyond : (t : ℕ) → n ≤ t → T t ≡ absent) (v w : List ℕ) (zeros : (t : ℕ) → get_or v t 0 ≡ 0) (raised : Raised T v w) where
  flagged_finite : (t : ℕ) → is_flagged w t ≡ true → infinite T n t ≡ false
  unfolding infinite is_flagged
  flagged_finite t h =
      rw (finite_complete T n beyond (raised_finite T raised (λ u e. absurd (false≢true (rw (zeros u) at e))) t h))

  unflagged_infinite : Closed T n w → (t : ℕ) → is_flagged w t ≡ false → infinite T n t ≡ true
  unfolding infinite
  unflagged_infinite c t h =
      rw (if_not_true (found (finite_step T) n t) (λ e. not_both (is_flagged w t) (closed_finite T n beyond (is_flagged w) c (finite_sound T n t e)) h))

  -- no more is found: the lowest without a mark is the lowest without a finite value
  pub lowest_closed : Closed T n w → lowest (λ t. not (is_flagged w t)) n ≡ lowest (infinite T n) n
  lowest_closed c =
      lowest_same (λ t. not (is_flagged w t)) (infinite T n) n (λ t h.
      test (is_flagged w t) (λ e. rw (e, flagged_finite t e)) λ e. rw (e, unflagged_infinite c t e))

  -- each is marked
  pub lowest_full : None ≡ if_below n (lowest (λ t. not (is_flagged w t)) n) → lowest (λ t. not (is_flagged w t)) n ≡ lowest (infinite T n) n
  lowest_full f =
      let most = lowest_most (λ t. not (is_flagged w t)) n in
      test (ltb (lowest (λ t. not (is_flagged w t)) n) n) (λ h. absurd (one (rw h at f))) λ h.
      let full : lowest (λ t. not (is_flagged w t)) n ≡ n = omega (arith, ltb-false (lowest (λ t. not (is_flagged w t)) n) n h) in
      lowest_same (λ t. not (is_flagged w t)) (infinite T n) n (λ t i.
      let e = not-false (is_flagged w t) (upto (λ u. not (is_flagged w u)) n full t i) in rw (e, flagged_finite t e))
    where
      one : {k : ℕ} → ◌≡◌ {A = Option ℕ} None (Some k) → ⊥
      one e = cc
