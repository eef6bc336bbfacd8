-- The ways through the check.
-- Assumes nothing.
use mathlib.Core.Bool.{true, false}
use mathlib.Core.List.{List}
use mathlib.Core.Path.{◌≡◌}
use Prim.Native.Nat.{ℕ, ◌≤◌, ◌<◌}
use borrow.Author.Tests.{lt-ltb, le-ltb}
use lib.ListN.{length}
use Rattle.std.specs.Prelude.{Result, Ok, Err}
use Rattle.octets.proofs.Tests.{test}
use Rattle.table.specs.declared.CheckCause.TheVariants.{TableShape}
use Rattle.table.specs.declared.Flaw.{Flaw}
use Rattle.table.specs.Reading.{scan, table_in, count_in}
use Rattle.table.specs.Verdict.{Verdict, flawed, judge, verdict}
use Rattle.checker.specs.Index.{scanned, index_in, count_after, index_after}

module _ (b : List ℕ) where
  -- what the scan answers
  scanned_whole : {n : ℕ} → ◌≡◌ {A = Result ℕ Flaw} (Ok n) (scanned b) → ((scan b).whole ≡ true) × (n ≡ count_in b)
  scanned_whole q = test (scan b).whole (λ e. let z = rw e at q in (e, cc)) λ e. let z = rw e at q in absurd (cc)

  scanned_flaw : {f : Flaw} → ◌≡◌ {A = Result ℕ Flaw} (Err f) (scanned b) → ((scan b).whole ≡ false) × (f ≡ record { cause = TableShape; place = count_in b })
  scanned_flaw q = test (scan b).whole (λ e. let z = rw e at q in absurd (cc)) λ e. let z = rw e at q in (e, cc)

  -- what is so of the verdict v, the count n and the index after, where the index was before
  abbrev pub Into : List ℕ → List ℕ → Verdict → ℕ → Type 0
  Into before after v n = (v ≡ verdict b) × (n ≡ count_after b) × (after ≡ index_after b before)

  pub into_long : (index : List ℕ) → 8192 < length b → Into index index (flawed TableShape 0) 0
  unfolding verdict count_after index_after
  into_long index h = let l = lt-ltb 8192 (length b) h in (rw l, rw l, rw l)

  module _ (before after : List ℕ) (h : length b ≤ 8192) (i : after ≡ index_in b) where
    pub into_misshapen : {f : Flaw} → ◌≡◌ {A = Result ℕ Flaw} (Err f) (scanned b) → Into before after (Err f) f.place
    unfolding verdict count_after index_after
    into_misshapen q = let l = le-ltb 8192 (length b) h in let (w, e) = scanned_flaw q in rw e (rw (l, w), rw l, rw l i)

    pub into_judged : {n : ℕ} {v : Verdict} → ◌≡◌ {A = Result ℕ Flaw} (Ok n) (scanned b) → v ≡ judge (table_in b) n → Into before after v n
    unfolding verdict count_after index_after
    into_judged q j = let l = le-ltb 8192 (length b) h in let (w, e) = scanned_whole q in (rw (l, w) (rw e at j), rw l e, rw l i)

pub counted : (b : List ℕ) {n : ℕ} → ◌≡◌ {A = Result ℕ Flaw} (Ok n) (scanned b) → n ≡ count_in b
counted b q = (scanned_whole b q).1
