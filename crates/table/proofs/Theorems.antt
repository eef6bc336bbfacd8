-- What is proved of tables: what octets stand for (FORMATS, "Tables"), which cause is named ("Refusals", "Order of refusals"), what holds of a table that passes.
-- That the code's answer is this verdict is the contract of `check`, in `src/lib.rt`.
-- Assumes nothing.
use mathlib.Core.Bool.{true}
use mathlib.Core.List.{List}
use mathlib.Core.Path.{◌≡◌, refl, sym, subst, ◌∙◌}
use Prim.Native.Nat.{ℕ, ◌≤◌}
use native.Mathlib.Omega.{arith}
use Rattle.std.specs.Prelude.{Ok, Err}
use lib.Dec.{ltb}
use lib.ListN.{length}
use borrow.Author.Tests.{ltb-true, ltb-false}
use Rattle.octets.proofs.Tests.{test}
use Rattle.octets.specs.Numbers.{Octets}
use Rattle.table.specs.declared.CheckCause.{CheckCause}
use Rattle.table.specs.Syntax.{Record, table}
use Rattle.table.specs.Octets.{Spells, Misshapen}
use Rattle.table.specs.Reading.{scan, look}
use Rattle.table.specs.Cause.{cause_number, Breaks, FirstCause}
use Rattle.table.specs.Verdict.{Verdict, no_flaw, flawed, verdict}
use Rattle.table.specs.Passes.{Passes}
use Rattle.table.proofs.Scan.{scan_spells}
use Rattle.table.proofs.Spelled.{unique, spells_scan, spells_not_misshapen, misshapen_unique}
use Rattle.table.proofs.Causes.{same_cause, Right, looks, right, sound, keeps}

-- Octets are those of one list of records at most.
pub records_unique : {b : List ℕ} {rs rs' : List Record} → Spells b rs → Spells b rs' → rs ≡ rs'
records_unique = unique

-- What a whole scan finds are records, and the octets are theirs.
pub found_records : (b : List ℕ) → Octets b → length b ≤ 8192 → (scan b).whole ≡ true → (rs : List Record) × Spells b rs
found_records b o h e = let f = scan_spells b o h e in (f.records, f.spells)

-- Of octets that are those of records, the scan finds these records, all of them and in their order.
pub records_found : {b : List ℕ} {rs : List Record} → Octets b → Spells b rs
    → ((scan b).whole ≡ true) × (length (scan b).offsets ≡ length rs) × (look b (scan b).offsets ≡ table rs)
records_found {b} o x = let s = spells_scan x in (s.0, s.1, looks b o x)

-- 1: octets that are not those of records are misshapen at one place, and no others are.
pub misshapen_once : {b : List ℕ} {p q : ℕ} → Octets b → Misshapen b p → Misshapen b q → p ≡ q
misshapen_once = misshapen_unique

pub misshapen_no_records : {b : List ℕ} {rs : List Record} {p : ℕ} → Octets b → Spells b rs → Misshapen b p → ⊥
misshapen_no_records = spells_not_misshapen

told : (b : List ℕ) → Octets b → (v : Verdict) → verdict b ≡ v → Right b v
told b o v e = subst (Right b) e (right b o)

module _ (b : List ℕ) (o : Octets b) where
  -- The cause that the verdict names is the first: none with a lower number holds, nor the same at a lower record.
  pub named_first : (c : CheckCause) (p : ℕ) → verdict b ≡ flawed c p → FirstCause b c p
  named_first c p e = told b o (flawed c p) e

  -- The verdict is no_flaw where no cause holds, and nowhere else.
  pub passed_none : verdict b ≡ no_flaw → (c : CheckCause) (p : ℕ) → Breaks b p c → ⊥
  passed_none e = told b o no_flaw e

  by_verdict : {X : Type 0} → (verdict b ≡ no_flaw → X) → ((c : CheckCause) (p : ℕ) → verdict b ≡ flawed c p → X) → X
  by_verdict {X} f g = by (verdict b) refl
    where
      by : (v : Verdict) → verdict b ≡ v → X
      by (Ok u) e = f e
      by (Err x) e = g x.cause x.place e

  pub none_passed : ((c : CheckCause) (p : ℕ) → Breaks b p c → ⊥) → verdict b ≡ no_flaw
  none_passed h = by_verdict (λ e. e) λ c p e. absurd (h c p (named_first c p e).holds)

  one_first : (c d : CheckCause) (p q : ℕ) → FirstCause b c p → FirstCause b d q → (c ≡ d) × (p ≡ q)
  one_first c d p q x y =
      test (ltb (cause_number c) (cause_number d)) (λ e. absurd (y.earlier c p (ltb-true _ _ e) x.holds)) λ e₁.
      test (ltb (cause_number d) (cause_number c)) (λ e. absurd (x.earlier d q (ltb-true _ _ e) y.holds)) λ e₂.
      let s : c ≡ d = same_cause c d (omega (arith, ltb-false (cause_number c) (cause_number d) e₁, ltb-false (cause_number d) (cause_number c) e₂)) in
      test (ltb p q) (λ e. absurd (y.lower p (ltb-true _ _ e) (subst (Breaks b p) s x.holds))) λ e₃.
      test (ltb q p) (λ e. absurd (x.lower q (ltb-true _ _ e) (subst (Breaks b q) (sym s) y.holds))) λ e₄.
      (s, omega (arith, ltb-false p q e₃, ltb-false q p e₄))

  -- The first cause is the one that the verdict names.
  pub first_named : (c : CheckCause) (p : ℕ) → FirstCause b c p → verdict b ≡ flawed c p
  first_named c p x =
      by_verdict (λ e. absurd (passed_none e c p x.holds)) λ d q e.
      let s = one_first d c q p (named_first d q e) x in e ∙ rw (s.0, s.1)

  -- Of the octets of records of which no cause holds, all that the crates above rely on: by the rules alone.
  pub rules_kept : {rs : List Record} → Spells b rs → ((c : CheckCause) (p : ℕ) → Breaks b p c → ⊥) → Passes b (table rs) (length rs)
  rules_kept x h = keeps b o h x

  -- A table that passes is the octets of records, and reading finds them.
  pub passed_records : verdict b ≡ no_flaw → (rs : List Record) × Spells b rs × (look b (scan b).offsets ≡ table rs) × (length (scan b).offsets ≡ length rs)
  passed_records e = let f = sound b o (passed_none e) in (f.records, f.spells, looks b o f.spells, sym f.count)

  -- Of what is read of it, all that the crates above rely on.
  pub passes : verdict b ≡ no_flaw → Passes b (look b (scan b).offsets) (length (scan b).offsets)
  passes e = let (rs, x, l, n) = passed_records e in rw (l, n) (rules_kept x (passed_none e))
