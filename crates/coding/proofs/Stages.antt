-- From the octets of a table to the records that they are: a call refuses with the table's first cause, or with 7, or goes on with the records.
-- Assumes nothing.
use Rattle.std.specs.Prelude.{Ok, Err}
use borrow.Author.Tests.{ltb-true, ltb-false, lt-ltb, le-ltb}
use mathlib.Core.Bool.{not}
use mathlib.Core.List.{List}
use mathlib.Core.Logic.{◌↔◌}
use mathlib.Core.Path.{◌≡◌, refl, sym, ap, ◌∙◌}
use Prim.Native.Nat.{ℕ, ◌≤◌, ◌<◌}
use lib.Dec.{ltb}
use lib.ListN.{length}
use Rattle.octets.specs.Answer.{if}
use Rattle.octets.specs.Numbers.{Octets}
use Rattle.octets.proofs.Answer.{run, if_cases}
use Rattle.octets.proofs.Tests.{test}
use Rattle.table.specs.Syntax.{Record, Table, table}
use Rattle.table.specs.Cause.{FirstCause}
use Rattle.table.specs.Reading.{scan, look}
use Rattle.table.specs.Verdict.{verdict, Verdict}
use Rattle.table.specs.declared.CheckCause.{CheckCause}
use Rattle.table.proofs.Theorems.{records_found, named_first, first_named, passed_none, none_passed, passed_records}
use Rattle.coding.specs.Outcome.{TableCause, Unknown, table_cause, Refusal, of_table, refusal, Outcome, refuse}
use Rattle.coding.specs.Calls.{after_check}
use Rattle.coding.specs.Demands.{Answers, of_the_table, Accepted, NoSuchType, OfType}
use Rattle.coding.proofs.Causes.{same_table, not_unknown}
use Rattle.coding.proofs.Outcomes.{Beyond, Unchanged}

of_one_table : {c d : TableCause} {b w : List ℕ} → refuse (of_table c) b ≡ refuse (of_table d) w → c ≡ d
of_one_table {c} {d} e = let z : refusal (of_table c) ≡ refusal (of_table d) = ap (λ (o : Outcome). o.answer) e in cc

-- g is what a call does with the records by number, once it has found the type among them
module _ (b : List ℕ) (t : ℕ) (buf : List ℕ) (g : Table → Outcome) where
  abbrev pub step : Table → ℕ → Outcome
  step T n = if (not (ltb t n)) (refuse (of_table Unknown) buf) λ _. g T

  abbrev pub call : Outcome
  call = after_check b buf step (verdict b)

  module _ (o : Octets b) where
    call_refused : (c : CheckCause) (p : ℕ) → FirstCause b c p → call ≡ refuse (of_table (table_cause c p)) buf
    unfolding after_check
    call_refused c p x = ap (after_check b buf step) (first_named b o c p x)

    call_accepted : {rs : List Record} → Accepted b rs → call ≡ step (table rs) (length rs)
    unfolding after_check
    call_accepted {rs} a =
        let f = records_found o a.spells in
        ap (after_check b buf step) (none_passed b o a.no_cause) ∙ rw (f.2, f.1)

    call_unknown : {rs : List Record} → Accepted b rs → length rs ≤ t → call ≡ refuse (of_table Unknown) buf
    call_unknown {rs} a h = call_accepted a ∙ simp (run, le-ltb t (length rs) h)

    pub call_found : {rs : List Record} → Accepted b rs → t < length rs → call ≡ g (table rs)
    call_found {rs} a h = call_accepted a ∙ simp (run, lt-ltb t (length rs) h)

    -- how far a call comes
    data Stage : Type 0 where
      at_table : (c : CheckCause) (p : ℕ) → FirstCause b c p → Stage
      at_type : NoSuchType b t → Stage
      at_records : (rs : List Record) → Accepted b rs → t < length rs → Stage

    stage : Stage
    stage = by (verdict b) refl
      where
        by : (v : Verdict) → verdict b ≡ v → Stage
        by (Err x) e = at_table x.cause x.place (named_first b o x.cause x.place e)
        by (Ok u) e =
            let x = passed_records b o e in
            let a : Accepted b x.0 = record { spells = x.1; no_cause = passed_none b o e } in
            test (ltb t (length x.0)) (λ h. at_records x.0 a (ltb-true t (length x.0) h))
            λ h. at_type (record { records = x.0; accepted = a; beyond = ltb-false t (length x.0) h })

    -- every later answer: the records are found, and what follows gives it
    pub found_exactly : (x : Outcome) → Beyond x → (call ≡ x) ↔ OfType b t (λ T. g T ≡ x)
    found_exactly x far = (λ e. from stage e, λ r. call_found r.accepted r.there ∙ r.holds)
      where
        from : Stage → call ≡ x → OfType b t (λ T. g T ≡ x)
        from (at_table c p f) e =
            absurd (far (table_cause c p) (ap (λ (o : Outcome). o.answer) (sym e ∙ call_refused c p f)))
        from (at_type f) e = absurd (far Unknown (ap (λ (o : Outcome). o.answer) (sym e ∙ call_unknown f.accepted f.beyond)))
        from (at_records rs a h) e = record { records = rs; accepted = a; there = h; holds = sym (call_found a h) ∙ e }

    module _ (far : (T : Table) → Beyond (g T)) where
      -- 1 to 6
      pub table_exactly : (c : CheckCause) (p : ℕ) → (call ≡ refuse (of_table (table_cause c p)) buf) ↔ FirstCause b c p
      table_exactly c p = (λ e. from stage e, call_refused c p)
        where
          from : Stage → call ≡ refuse (of_table (table_cause c p)) buf → FirstCause b c p
          from (at_table d q f) e = let s = same_table d c q p (of_one_table (sym (call_refused d q f) ∙ e)) in rw (← s.0, ← s.1) f
          from (at_type f) e = absurd (not_unknown c p (sym (of_one_table (sym (call_unknown f.accepted f.beyond) ∙ e))))
          from (at_records rs a h) e = absurd (far (table rs) (table_cause c p) (ap (λ (o : Outcome). o.answer) (sym (call_found a h) ∙ e)))

      -- 7
      pub type_exactly : (call ≡ refuse (of_table Unknown) buf) ↔ NoSuchType b t
      type_exactly = (λ e. from stage e, λ x. call_unknown x.accepted x.beyond)
        where
          from : Stage → call ≡ refuse (of_table Unknown) buf → NoSuchType b t
          from (at_table d q f) e = absurd (not_unknown d q (of_one_table (sym (call_refused d q f) ∙ e)))
          from (at_type f) e = f
          from (at_records rs a h) e = absurd (far (table rs) Unknown (ap (λ (o : Outcome). o.answer) (sym (call_found a h) ∙ e)))

  step_unchanged : ((T : Table) → Unchanged buf (g T)) → (T : Table) (n : ℕ) → Unchanged buf (step T n)
  step_unchanged f T n = if_cases (Unchanged buf) (not (ltb t n)) _ _ (λ e r z. refl) λ e. f T

  after_unchanged : ((T : Table) → Unchanged buf (g T)) → (v : Verdict) → Unchanged buf (after_check b buf step v)
  unfolding after_check
  after_unchanged f (Ok u) = step_unchanged f (look b (scan b).offsets) (length (scan b).offsets)
  after_unchanged f (Err x) = λ r z. refl

  -- a refusal leaves the buffer as it was, whatever the octets are
  pub call_unchanged : ((T : Table) → Unchanged buf (g T)) → Unchanged buf call
  call_unchanged f = after_unchanged f (verdict b)

  -- every answer is of the table, or of the stage of what follows
  module _ {C : Type 0} (of : C → Refusal) (f : (T : Table) → Answers of (g T).answer) where
    step_answers : (T : Table) (n : ℕ) → Answers of (step T n).answer
    step_answers T n = if_cases (λ (x : Outcome). Answers of x.answer) (not (ltb t n)) _ _ (λ e. of_the_table Unknown) λ e. f T

    after_answers : (v : Verdict) → Answers of (after_check b buf step v).answer
    unfolding after_check
    after_answers (Ok u) = step_answers (look b (scan b).offsets) (length (scan b).offsets)
    after_answers (Err x) = of_the_table (table_cause x.cause x.place)

    pub call_answers : Answers of call.answer
    call_answers = after_answers (verdict b)
