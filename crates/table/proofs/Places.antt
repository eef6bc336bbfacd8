-- The place of a verdict is at most 128, and octets that pass are at most 8,192.
-- Assumes nothing.
use mathlib.Core.Bool.{not}
use mathlib.Core.List.{List, [], ◌∷◌, ◌++◌}
use mathlib.Core.Path.{◌≡◌, subst}
use Prim.Native.Nat.{ℕ, zero, suc, ◌+◌, ◌≤◌}
use native.Mathlib.Omega.{arith}
use Rattle.std.specs.Prelude.{Ok, Err}
use lib.Dec.{ltb, eqb}
use lib.ListN.{length, length-append}
use borrow.Author.Tests.{ltb-true, ltb-false}
use Rattle.octets.specs.Lists.{lowest}
use Rattle.octets.proofs.Tests.{test}
use Rattle.table.specs.Syntax.{Table}
use Rattle.table.specs.Reading.{record_end, scan_from, scan, look}
use Rattle.table.specs.declared.CheckCause.{CheckCause}
use Rattle.table.specs.declared.CheckCause.TheVariants.{TableShape}
use Rattle.table.specs.Verdict.{Test, in_turn, record_causes, judge, too_long, Verdict, no_flaw, flawed, verdict}

abbrev Within : ℕ → Verdict → Type 0
Within n (Ok u) = Unit {0}
Within n (Err x) = x.place ≤ n

scanned : (b : List ℕ) (k : ℕ) (os : List ℕ) (o : ℕ) → length (scan_from b k os o).offsets ≤ length os + k
unfolding scan_from
scanned b zero os o = omega arith
scanned b (suc k) os o =
    let s = length-append os (o ∷ []) in
    test (eqb (record_end b o) 0) (λ e. rw e (omega arith)) λ e. rw e
    (test (eqb (record_end b o) (length b)) (λ f. rw f (omega arith)) λ f. rw f (omega (arith, scanned b k (os ++ (o ∷ [])) (record_end b o))))

judged : (T : Table) (n m : ℕ) (xs : List Test) → n ≤ m → Within m (in_turn T n xs)
judged T n m [] h = tt
judged T n m (x ∷ xs) h =
    test (ltb (lowest (x.1 T n) n) n)
    (λ t. rw t (omega (arith, ltb-true (lowest (x.1 T n) n) n t)))
    λ t. rw t (judged T n m xs h)

within : (b : List ℕ) → Within 128 (verdict b)
unfolding verdict scan judge
within b =
    let s = scanned b 128 [] 0 in
    test (too_long b) (λ e. rw e (omega arith)) λ e. rw e
    (test (not (scan b).whole) (λ f. rw f (omega arith)) λ f. rw f
    (judged (look b (scan b).offsets) (length (scan b).offsets) 128 record_causes (omega arith)))

pub place_small : (b : List ℕ) (c : CheckCause) (p : ℕ) → verdict b ≡ flawed c p → p ≤ 128
place_small b c p e = subst (Within 128) e (within b)

pub passed_short : (b : List ℕ) → verdict b ≡ no_flaw → length b ≤ 8192
unfolding verdict
passed_short b e = test (too_long b) (λ f. absurd (refused (rw f at e))) λ f. omega (arith, ltb-false)
  where
    refused : flawed TableShape 0 ≡ no_flaw → ⊥
    refused z = let o : ◌≡◌ {A = ℕ} 0 1 = cc in omega arith
