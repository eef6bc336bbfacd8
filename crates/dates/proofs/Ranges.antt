-- How large the fields of a time in range are.
-- Assumes nothing.
use borrow.Author.Tests.{ltb-true, ltb-false, leb-true, not-false}
use mathlib.Core.Bool.{true, not}
use mathlib.Core.Path.{◌≡◌, refl}
use native.Mathlib.Omega.{arith}
use Prim.Native.Nat.{ℕ, ◌≤◌, ◌<◌}
use lib.Dec.{ltb, leb}
use Rattle.octets.specs.Lists.{lowest_from}
use Rattle.octets.proofs.Search.{upto}
use Rattle.octets.proofs.Tests.{test}
use Rattle.dates.specs.declared.DateTime.{DateTime}
use Rattle.dates.specs.declared.TimeKind.{TimeKind}
use Rattle.dates.specs.Calendar.{leap, february, month_days, years, in_range}
use Rattle.dates.proofs.Days.{month_in, by_february, no_month}
use Rattle.dates.proofs.Dates.{date, clock, ranged}

month_most : (y m : ℕ) → month_days y m ≤ 31
unfolding lowest_from february
month_most y m =
    test (ltb 12 m) (λ e. rw (no_month y m (ltb-true 12 m e)) (omega arith)) λ e.
    let h : m < 13 = omega (arith, ltb-false 12 m e) in
    test (leap y)
    (λ f. rw (by_february y 29 (rw f refl)) (leb-true _ _ (not-false _ (upto (λ i. not (leb (month_in 29 i) 31)) 13 refl m h))))
    (λ f. rw (by_february y 28 (rw f refl)) (leb-true _ _ (not-false _ (upto (λ i. not (leb (month_in 28 i) 31)) 13 refl m h))))

pub in_range_lem : (k : TimeKind) (t : DateTime) → in_range k t ≡ true
    → (t.year < years k) × (t.month ≤ 12) × (t.day ≤ 31) × (t.hour < 24) × (t.minute < 60) × (t.second < 60)
in_range_lem k t e =
    let (y, d, c) = ranged k t e in
    let (h, n, s) = clock t c in
    let f = date t d in
    (y, f.last_month, omega (arith, f.last_day, month_most t.year t.month), h, n, s)
