-- The ways through the writer of a whole value.
-- Assumes nothing.
use mathlib.Core.Bool.{true, false}
use mathlib.Core.List.{List, [], ◌∷◌, ◌++◌, append_assoc}
use mathlib.Core.Path.{◌≡◌, refl, sym, ap, ◌∙◌}
use Prim.Native.Nat.{ℕ, ◌+◌, ◌-◌, ◌≤◌, ◌<◌, min}
use native.Mathlib.Nat.{zero-add}
use native.Mathlib.Omega.{arith}
use borrow.Author.Tests.{lt-ltb, le-ltb, le-leb, lt-leb, leb-true, eqb-true, eqb-false}
use lib.Dec.{ltb, leb, eqb}
use lib.ListN.{length, take, drop, take-append-drop}
use lib.Seq.{sets, sets-eq, length-take-le, drop-append-le}
use Rattle.coding.specs.declared.JudgingCause.{JudgingCause}
use Rattle.coding.specs.declared.JudgingCause.TheVariants.{ValueShape}
use Rattle.octets.proofs.Tests.{test}
use Rattle.octets.specs.Answer.{Answer, got, refused, then, if, none_left}
use Rattle.octets.proofs.Answer.{run, refused≢got, then_refused}
use Rattle.table.specs.Syntax.{Table}
use Rattle.coding.specs.Value.{Value}
use Rattle.coding.specs.Form.{form_at}
use Rattle.coding.specs.Judging.{need, read_node, judge_value, judge_whole}
use Rattle.coding.specs.declared.TableCause.TheVariants.{Unknown}
use Rattle.coding.specs.declared.ValueCause.TheVariants.{MessageRoom}
use Rattle.coding.specs.Outcome.{value_cause, Told, done as answered, refusal, Outcome, refuse, write_at_start}
use Rattle.coding.specs.Calls.{after_judging, write_outcome}
use Rattle.coding.specs.declared.Refusal.{Refusal}
use Rattle.coding.specs.declared.Refusal.TheVariants.{Table as of_table, Value as of_value}
use Rattle.coding.proofs.Checked.{Says}
use Rattle.writer.specs.Frames.{cap}
use Rattle.writer.specs.Told.{Ruling, fit, unfit, told, written, IsDone}
use Rattle.writer.specs.Putting.{Fits, IsPut}
use Rattle.writer.specs.declared.put.Placed.{Placed}
use Rattle.writer.proofs.Judging.{done, no}

none_nil : (w : List ℕ) → length w ≡ 0 → none_left w ≡ true
unfolding none_left
none_nil [] h = refl
none_nil (x ∷ w) h = absurd (omega arith)

none_some : (w : List ℕ) → 0 < length w → none_left w ≡ false
unfolding none_left
none_some [] h = absurd (omega arith)
none_some (x ∷ w) h = refl

-- no octets are no value
empty : (T : Table) (t : ℕ) → judge_value T 24 t [] ≡ refused ValueShape 0
unfolding judge_value read_node need then if
empty T t = refl

never_empty : (T : Table) (t : ℕ) (v : List ℕ) (a : Value) (w : List ℕ) → length v ≤ 0 → judge_value T 24 t v ≡ got a w → ⊥
never_empty T t [] a w h e = refused≢got (sym (empty T t) ∙ e)
never_empty T t (x ∷ v) a w h e = omega arith

-- the value that was accepted, and the length of its form
record Accepted (T : Table) (t : ℕ) (v : List ℕ) (s : ℕ) : Type 0 where
  value : Value
  rest : List ℕ
  is : judge_value T 24 t v ≡ got value rest
  none : length rest ≡ 0
  size : cap (length (form_at T 24 t value)) ≡ s

module _ (T : Table) (n t : ℕ) (v buf : List ℕ) where
  pub out_type : n ≤ t → Says (write_outcome T n t v buf) (refusal (of_table Unknown)) buf
  unfolding write_outcome
  out_type h = let e : ltb t n ≡ false = le-ltb t n h in (simp (run, e), simp (run, e))

  pub out_long : t < n → 16384 < length v → Says (write_outcome T n t v buf) (refusal (of_value (value_cause ValueShape 0))) buf
  unfolding write_outcome
  out_long h l =
      let e : ltb t n ≡ true = lt-ltb t n h in
      let f : leb (length v) 16384 ≡ false = lt-leb (length v) 16384 l in
      (simp (run, e, f), simp (run, e, f))

  -- the outcome once the value is judged
  judged : t < n → length v ≤ 16384 → (x : Answer JudgingCause Value) → judge_whole T 24 t v ≡ x → write_outcome T n t v buf ≡ after_judging (form_at T 24 t) v buf x
  unfolding write_outcome
  judged h l x q =
      let e : ltb t n ≡ true = lt-ltb t n h in
      let f : leb (length v) 16384 ≡ true = le-leb (length v) 16384 l in
      simp (run, e, f, q)

  whole_refused : (c : JudgingCause) (l : ℕ) → judge_value T 24 t v ≡ refused c l → judge_whole T 24 t v ≡ refused c l
  unfolding judge_whole
  whole_refused c l q = simp (q, then_refused)

  whole_left : (a : Value) (w : List ℕ) → judge_value T 24 t v ≡ got a w → 0 < length w → judge_whole T 24 t v ≡ refused ValueShape (length w)
  unfolding judge_whole
  whole_left a w q h = simp (run, q, none_some w h)

  whole_got : (a : Value) (w : List ℕ) → judge_value T 24 t v ≡ got a w → length w ≡ 0 → judge_whole T 24 t v ≡ got a w
  unfolding judge_whole
  whole_got a w q h = simp (run, q, none_nil w h)

  module _ (h : t < n) (l : length v ≤ 16384) (r : Ruling) (p : r ≡ told (form_at T 24 t) v (judge_value T 24 t v)) where
    pub out_refused : (k : JudgingCause) (q : ℕ) → r ≡ unfit k q → Says (write_outcome T n t v buf) (refusal (of_value (value_cause k q))) buf
    unfolding after_judging
    out_refused k q e =
        let (i, x, y) = no (form_at T 24 t) v (judge_value T 24 t v) r k q p e in
        let o = judged h l (refused k i) (whole_refused k i x) in
        (rw o (ap (λ (z : ℕ). refusal (of_value (value_cause k z))) y), rw o)

    module _ (e s : ℕ) (d : r ≡ fit e s) where
      pub out_left : e < length v → Says (write_outcome T n t v buf) (refusal (of_value (value_cause ValueShape e))) buf
      unfolding after_judging
      out_left g =
          let (a, w, x, y, z) = done (form_at T 24 t) v (judge_value T 24 t v) r e s p d in
          let o = judged h l (refused ValueShape (length w)) (whole_left a w x (omega arith)) in
          (rw o (simp y), rw o)

      accepted : length v ≤ e → Accepted T t v s
      accepted g =
          let (a, w, x, y, z) = done (form_at T 24 t) v (judge_value T 24 t v) r e s p d in
          test (eqb (length w) 0)
          (λ i. record { value = a; rest = w; is = x; none = eqb-true (length w) 0 i; size = z })
          (λ i. absurd (never_empty T t v a w (omega (arith, eqb-false (length w) 0 i)) x))

      module _ (g : length v ≤ e) where
        whole : (x : Accepted T t v s) → write_outcome T n t v buf ≡ after_judging (form_at T 24 t) v buf (got x.value x.rest)
        whole x = judged h l (got x.value x.rest) (whole_got x.value x.rest x.is x.none)

        module _ (room : length buf ≤ 8192) where
          pub out_room : length buf < s → Says (write_outcome T n t v buf) (refusal (of_value MessageRoom)) buf
          unfolding after_judging
          out_room k =
              let x = accepted g in
              let o = whole x in
              let f : leb (length (form_at T 24 t x.value)) (min 8192 (length buf)) ≡ false = lt-leb (length (form_at T 24 t x.value)) (min 8192 (length
              buf)) (omega (arith, x.size)) in
              (rw o (simp (run, f)), rw o (simp (run, f)))

          module _ (k : s ≤ length buf) where
            length_is : (x : Accepted T t v s) → length (form_at T 24 t x.value) ≡ s
            length_is x = omega (arith, x.size)

            pub fits : Fits (form_at T 24 t) (judge_value T 24 t v) 0 buf
            unfolding IsDone written
            fits = let x = accepted g in let y = length_is x in
                record { done = rw x.is tt; short = rw x.is (omega arith); room = rw x.is (omega arith) }

            pub out_done : (w : List ℕ) (q : Placed) → IsPut (form_at T 24 t) (judge_value T 24 t v) v 0 buf w q → Says (write_outcome T n t v buf) (answered s) w
            unfolding after_judging written
            out_done w q b =
                let x = accepted g in
                let y = length_is x in
                let m = form_at T 24 t x.value in
                let o = whole x in
                let f : leb (length m) (min 8192 (length buf)) ≡ true = le-leb (length m) (min 8192 (length buf)) (omega arith) in
                let c : w ≡ sets buf 0 m = rw x.is at b.buffer in
                let z : sets buf 0 m ≡ take 0 buf ++ m ++ drop (0 + length m) buf = sets-eq m buf 0 (omega arith) in
                (rw o (simp (run, f) (ap (λ (z : ℕ). answered z) (sym y))), c ∙ z ∙ rw o (simp (run, f, zero-add)))

-- only the first m octets of a buffer are written, at most 8,192
module _ (buf : List ℕ) (m : ℕ) (em : m ≡ min (length buf) 8192) where
  abbrev Front : List ℕ
  Front = take m buf

  front_length : length Front ≡ m
  front_length = length-take-le m buf (omega arith)

  abbrev Grown : Outcome → Outcome → Type 0
  Grown x y = (x.answer ≡ y.answer) × (x.buffer ++ drop m buf ≡ y.buffer)

  grown_refuse : (r : Refusal) → Grown (refuse r Front) (refuse r buf)
  grown_refuse r = (refl, take-append-drop m buf)

  grown_write : (w : List ℕ) → length w ≤ m → Grown (write_at_start w Front) (write_at_start w buf)
  grown_write w h =
      let l = front_length in
      let q : drop (length w) Front ++ drop m buf ≡ drop (length w) buf = sym (drop-append-le (length w) Front (drop m buf) (omega arith))
      ∙ ap (drop (length w)) (take-append-drop m buf) in
      (refl, append_assoc w (drop (length w) Front) (drop m buf) ∙ ap (λ (l : List ℕ). w ++ l) q)

  grown_judged : (f : Value → List ℕ) (v : List ℕ) (a : Answer JudgingCause Value) → Grown (after_judging f v Front a) (after_judging f v buf a)
  unfolding after_judging if
  grown_judged f v (got x r) =
      let l = front_length in
      let j : min 8192 (length Front) ≡ m = omega arith in
      let k : min 8192 (length buf) ≡ m = omega arith in
      rw (j, k) (test (leb (length (f x)) m) (λ t. rw t (grown_write (f x) (leb-true _ _ t))) λ t. rw t (grown_refuse (of_value MessageRoom)))
  grown_judged f v (refused c l) = grown_refuse (of_value (value_cause c (length v - l)))

  grown : (T : Table) (n t : ℕ) (v : List ℕ) → Grown (write_outcome T n t v Front) (write_outcome T n t v buf)
  unfolding write_outcome if
  grown T n t v =
      test (ltb t n)
      (λ a. test (leb (length v) 16384) (λ c. rw (a, c) (grown_judged (form_at T 24 t) v (judge_whole T 24 t v))) λ c. rw (a, c) (grown_refuse (of_value (value_cause ValueShape 0))))
      (λ a. rw a (grown_refuse (of_table Unknown)))

  pub out_front : (T : Table) (n t : ℕ) (v : List ℕ) (r : Told) (w : List ℕ) → Says (write_outcome T n t v Front) r w → Says (write_outcome T n t v buf) r (w ++ drop m buf)
  out_front T n t v r w S = let g = grown T n t v in (S.0 ∙ g.0, ap (λ (l : List ℕ). l ++ drop m buf) S.1 ∙ g.1)

  pub front_room : length Front ≤ 8192
  front_room = let l = front_length in omega arith
