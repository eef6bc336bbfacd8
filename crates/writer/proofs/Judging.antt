-- The judge: what it says of a row is what the definitions answer there.
-- Assumes nothing.
use mathlib.Core.List.{List, [], ◌∷◌}
use mathlib.Core.Path.{◌≡◌, refl, sym, ap, ◌∙◌}
use Prim.Native.Nat.{ℕ, ◌+◌, ◌-◌, ◌≤◌, ◌<◌}
use native.Mathlib.Omega.{arith}
use lib.ListN.{length, drop, length-append, length-drop}
use Rattle.std.specs.Prelude.{Ok, Err}
use Rattle.coding.specs.declared.JudgingCause.{JudgingCause}
use Rattle.coding.specs.declared.Unfit.{Unfit}
use Rattle.writer.specs.declared.judge.Judged.{Judged}
use Rattle.octets.specs.Answer.{Answer, got, refused, then}
use Rattle.octets.proofs.Answer.{got_holds}
use Rattle.table.specs.Syntax.{Table, constructed}
use Rattle.coding.specs.Value.{Value}
use Rattle.coding.specs.Form.{form_at}
use Rattle.coding.specs.Judging.{judge_value}
use Rattle.writer.specs.Frames.{cap, framed}
use Rattle.writer.specs.Rows.{judge_each, judge_row, row_form, contents_form}
use Rattle.writer.specs.Told.{Ruling, fit, unfit, told}
use Rattle.writer.proofs.Frames.{Tagged, cap_below, cap_sum, framed_length}
use Rattle.writer.proofs.Forms.{value_formed}
use Rattle.writer.proofs.Rows.{row_take, value_behind}

-- what is the same in the same rulings
pub fits_alike : {a b e k : ℕ} → fit a b ≡ fit e k → (a ≡ e) × (b ≡ k)
fits_alike {a} {b} {e} {k} z =
    let q : ◌≡◌ {A = Judged} (record { end = a; size = b }) (record { end = e; size = k }) = cc in
    (ap (λ (d : Judged). d.end) q, ap (λ (d : Judged). d.size) q)

unfits_alike : {c k : JudgingCause} {a p : ℕ} → unfit c a ≡ unfit k p → (c ≡ k) × (a ≡ p)
unfits_alike {c} {k} {a} {p} z =
    let q : ◌≡◌ {A = Unfit} (record { cause = c; place = a }) (record { cause = k; place = p }) = cc in
    (ap (λ (u : Unfit). u.cause) q, ap (λ (u : Unfit). u.place) q)

-- the answers apart
pub apart : {X : Type 0} {d : Judged} {u : Unfit} → ◌≡◌ {A = Ruling} (Ok d) (Err u) → X
apart z = let o : ◌≡◌ {A = ℕ} 0 1 = cc in absurd (omega arith)

module _ {A : Type 0} (f : A → List ℕ) (v : List ℕ) where
  pub done : (x : Answer JudgingCause A) (r : Ruling) (e k : ℕ) → r ≡ told f v x → r ≡ fit e k
      → (a : A) × (w : List ℕ) × (x ≡ got a w) × (length v - length w ≡ e) × (cap (length (f a)) ≡ k)
  unfolding told
  done (got a w) r e k h d = let z = fits_alike (sym h ∙ d) in (a, w, refl, z.0, z.1)
  done (refused c l) r e k h d = apart (sym d ∙ h)

  pub no : (x : Answer JudgingCause A) (r : Ruling) (k : JudgingCause) (p : ℕ) → r ≡ told f v x → r ≡ unfit k p
      → (l : ℕ) × (x ≡ refused k l) × (p ≡ length v - l)
  unfolding told
  no (got a w) r k p h d = apart (sym h ∙ d)
  no (refused c l) r k p h d = let z = unfits_alike (sym h ∙ d) in (l, ap (λ (i : JudgingCause). refused i l) z.0, sym z.1)

  pub told_small : (x : Answer JudgingCause A) (r : Ruling) (e k : ℕ) → r ≡ told f v x → r ≡ fit e k → k < 8194
  told_small x r e k h d = let (a, w, y, q, z) = done x r e k h d in rw (← z) (cap_below (length (f a)))

-- a value that was judged: where it ends, and the length of its form
pub record Came (T : Table) (n t : ℕ) (v : List ℕ) (at e k : ℕ) : Type 0 where
  pub value : Value
  pub is : judge_value T n t (drop at v) ≡ got value (drop e v)
  pub onward : at ≤ e
  pub within : e ≤ length v
  pub sized : k ≡ cap (length (form_at T n t value))

pub value_came : (T : Table) (n t : ℕ) (v : List ℕ) (at : ℕ) → Tagged T → at ≤ length v → (r : Ruling) (e s k : ℕ)
    → r ≡ told (contents_form T (n - 1) (T t).body) v (judge_value T n t (drop at v)) → r ≡ fit e s → k ≡ framed (T t).tags s → Came T n t v at e k
value_came T n t v at g h r e s k a d ek =
    let (x, w, y, q, z) = done (contents_form T (n - 1) (T t).body) v (judge_value T n t (drop at v)) r e s a d in
    let b = got_holds (value_behind T n v t at h) y in
    let f = got_holds (value_formed T g n t (drop at v)) y in
    let l = length-drop b.to v in
    let m = ap length b.is in
    let i = b.within in
    let o = b.onward in
    let j : b.to ≡ e = omega arith in
    record {
      value = x;
      is = y ∙ ap (got x) (b.is ∙ ap (λ (i : ℕ). drop i v) j);
      onward = omega arith;
      within = omega arith;
      sized = ek ∙ ap (framed (T t).tags) (sym z) ∙ framed_length (constructed (T t).body) (T t).tags (contents_form T (n - 1) (T t).body x)
          ∙ ap (λ (l : List ℕ). cap (length l)) (sym f);
    }

-- a sum in front of what is judged
unfoldable pub plus : ℕ → Ruling → Ruling
plus t (Ok d) = fit d.end (cap (t + d.size))
plus t (Err u) = Err u

plus_none : {A : Type 0} (f : A → List ℕ) (v : List ℕ) (x : Answer JudgingCause A) → told f v x ≡ plus 0 (told f v x)
unfolding told plus
plus_none f v (got a w) = let e : cap (length (f a)) ≡ cap (0 + cap (length (f a))) = omega arith in ap (fit (length v - length w)) e
plus_none f v (refused c l) = refl

plus_plus : (t k : ℕ) (z : Ruling) → plus t (plus k z) ≡ plus (cap (t + k)) z
unfolding plus
plus_plus t k (Ok d) = let q : cap (t + cap (k + d.size)) ≡ cap (cap (t + k) + d.size) = omega arith in ap (fit d.end) q
plus_plus t k (Err u) = refl

-- the form of the first comes before those of the rest
told_take : (T : Table) (n : ℕ) (v : List ℕ) (t : ℕ) (ts : List ℕ) (x : Value) (J : Answer JudgingCause (List Value))
    → told (row_form T n (t ∷ ts)) v (then J λ vs u. got (x ∷ vs) u) ≡ plus (cap (length (form_at T n t x))) (told (row_form T n ts) v J)
unfolding told then plus row_form
told_take T n v t ts x (got vs u) =
    ap (fit (length v - length u)) (ap cap (length-append (form_at T n t x) (row_form T n ts vs))
    ∙ sym (cap_sum (length (form_at T n t x)) (length (row_form T n ts vs))))
told_take T n v t ts x (refused c l) = refl

-- what is said of a row at a place
abbrev pub JudgedRow : Table → ℕ → List ℕ → List ℕ → ℕ → Ruling
JudgedRow T n v ts at = told (row_form T n ts) v (judge_row T n ts (drop at v))

-- the loop over a row: the row `ts` is left at `next`, and `total` octets are written of what came before it
pub record Left (T : Table) (n : ℕ) (w : Ruling) (v ts : List ℕ) (next total : ℕ) : Type 0 where
  pub whole : w ≡ plus total (JudgedRow T n v ts next)

pub row_begin : (T : Table) (n : ℕ) (v ts : List ℕ) (at : ℕ) → Left T n (JudgedRow T n v ts at) v ts at 0
row_begin T n v ts at = record { whole = plus_none _ v _ }

module _ (T : Table) (n : ℕ) (w : Ruling) (v : List ℕ) (next total : ℕ) where
  pub row_end : Left T n w v [] next total → next ≤ length v → total < 8194 → fit next total ≡ w
  unfolding judge_each told plus row_form
  row_end S k s =
      let l = length-drop next v in
      let e : length v - length (drop next v) ≡ next = omega arith in
      let t : cap (total + cap 0) ≡ total = omega arith in
      sym (rw (e, t) at S.whole)

  module _ (t : ℕ) (ts : List ℕ) (S : Left T n w v (t ∷ ts) next total) where
    pub row_turn : (e k : ℕ) → Came T n t v next e k → Left T n w v ts e (cap (total + k))
    row_turn e k z =
        record {
          whole = S.whole
              ∙ ap (λ (x : Answer JudgingCause (List Value)). plus total (told (row_form T n (t ∷ ts)) v x)) (row_take (λ u x. judge_value T n u x) t ts (drop next v) (drop
              e v) z.value z.is)
              ∙ ap (plus total) (told_take T n v t ts z.value (judge_row T n ts (drop e v)))
              ∙ plus_plus total (cap (length (form_at T n t z.value))) _
              ∙ ap (λ (x : ℕ). plus (cap (total + x)) (JudgedRow T n v ts e)) (sym z.sized);
        }

    refused_by : (k : JudgingCause) (l : ℕ) → judge_value T n t (drop next v) ≡ refused k l → w ≡ unfit k (length v - l)
    unfolding judge_each told then plus
    refused_by k l x = S.whole ∙ rw x refl

    pub row_refused : (f : Value → List ℕ) (y : Ruling) (c : JudgingCause) (p : ℕ) → y ≡ told f v (judge_value T n t (drop next v)) → y ≡ unfit c p
        → unfit c p ≡ w
    row_refused f y c p a d =
        let (l, x, q) = no f v (judge_value T n t (drop next v)) y c p a d in
        ap (λ (z : ℕ). unfit c z) q ∙ sym (refused_by c l x)
