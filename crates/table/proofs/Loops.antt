-- Loops through a table's octets, with a place and how many are left: what is left to test decides the whole test.
-- Assumes nothing.
use mathlib.Core.Bool.{Bool, true, false}
use mathlib.Core.List.{List, [], ◌∷◌}
use mathlib.Core.Path.{◌≡◌, refl, ◌∙◌}
use Prim.Native.Nat.{ℕ, zero, suc, ◌+◌, ◌*◌, ◌-◌, ◌≤◌, ◌<◌}
use native.Mathlib.Omega.{arith}
use lib.ListN.{length, get_or}
use borrow.Author.Tests.{le-leb, lt-leb}
use Rattle.octets.specs.Lists.{any, all, lowest_from, lowest}
use Rattle.octets.specs.Numbers.{two}
use Rattle.octets.proofs.Tests.{test}
use Rattle.octets.proofs.Search.{any_here, any_next, all_here, all_next}
use Rattle.table.specs.Octets.{rising}
use Rattle.table.specs.Reading.{numbers_at, every_at}

pub every_step : (b : List ℕ) (p n : ℕ) → 0 < n → (step : ℕ) → every_at step b p n ≡ get_or b p 0 ∷ every_at step b (p + step) (n - 1)
unfolding every_at
every_step b p zero h step = absurd (omega arith)
every_step b p (suc n) h step = let q : suc n - 1 ≡ n = omega arith in rw q

module _ (f : ℕ → Bool) (step : ℕ) (b : List ℕ) (p n : ℕ) (w : Bool) where
  -- some octet passes
  pub any_stops : any f (every_at step b p n) ≡ w → 0 < n → f (get_or b p 0) ≡ true → true ≡ w
  any_stops e h t = rw (every_step b p n h step, any_here f (get_or b p 0) (every_at step b (p + step) (n - 1)) t) at e

  pub any_goes : any f (every_at step b p n) ≡ w → 0 < n → f (get_or b p 0) ≡ false → any f (every_at step b (p + step) (n - 1)) ≡ w
  any_goes e h t = rw (every_step b p n h step, any_next f (get_or b p 0) (every_at step b (p + step) (n - 1)) t) at e

  pub any_ends : any f (every_at step b p n) ≡ w → n ≤ 0 → false ≡ w
  unfolding every_at any
  any_ends e h = let q : n ≡ 0 = omega arith in rw q at e

  -- every octet passes
  pub all_stops : all f (every_at step b p n) ≡ w → 0 < n → f (get_or b p 0) ≡ false → false ≡ w
  all_stops e h t = rw (every_step b p n h step, all_here f (get_or b p 0) (every_at step b (p + step) (n - 1)) t) at e

  pub all_goes : all f (every_at step b p n) ≡ w → 0 < n → f (get_or b p 0) ≡ true → all f (every_at step b (p + step) (n - 1)) ≡ w
  all_goes e h t = rw (every_step b p n h step, all_next f (get_or b p 0) (every_at step b (p + step) (n - 1)) t) at e

  pub all_ends : all f (every_at step b p n) ≡ w → n ≤ 0 → true ≡ w
  unfolding every_at all
  all_ends e h = let q : n ≡ 0 = omega arith in rw q at e

-- the numbers rise
module _ (b : List ℕ) (low p n : ℕ) (w : Bool) where
  pub rising_stops : rising low (numbers_at b p n) ≡ w → 0 < n → two b p < low → false ≡ w
  unfolding numbers_at rising
  rising_stops e h t = let q : n ≡ suc (n - 1) = omega arith in rw (q, lt-leb low (two b p) t) at e

  pub rising_goes : rising low (numbers_at b p n) ≡ w → 0 < n → low ≤ two b p → rising (two b p + 1) (numbers_at b (p + 2) (n - 1)) ≡ w
  unfolding numbers_at rising
  rising_goes e h t = let q : n ≡ suc (n - 1) = omega arith in rw (q, le-leb low (two b p) t) at e

  pub rising_ends : rising low (numbers_at b p n) ≡ w → n ≤ 0 → true ≡ w
  unfolding numbers_at rising
  rising_ends e h = let q : n ≡ 0 = omega arith in rw q at e

-- an element that is there has no default
pub get_d_there : (l : List ℕ) (i d e : ℕ) → i < length l → get_or l i d ≡ get_or l i e
get_d_there [] i d e h = absurd (omega arith)
get_d_there (x ∷ l) zero d e h = refl
get_d_there (x ∷ l) (suc i) d e h = get_d_there l i d e (omega arith)

-- tests that agree below n have one lowest number there
lowest_from_lem : (f g : ℕ → Bool) (k n : ℕ) → ((i : ℕ) → k ≤ i → i < k + n → f i ≡ g i) → lowest_from f k n ≡ lowest_from g k n
unfolding lowest_from
lowest_from_lem f g k zero h = refl
lowest_from_lem f g k (suc n) h =
    let q = h k (omega arith) (omega arith) in
    test (g k) (λ e. rw (q ∙ e, e)) λ e. rw (q ∙ e, e) (lowest_from_lem f g (suc k) n (λ i j l. h i (omega arith) (omega arith)))

pub lowest_same : (f g : ℕ → Bool) (n : ℕ) → ((k : ℕ) → k < n → f k ≡ g k) → lowest f n ≡ lowest g n
lowest_same f g n h = lowest_from_lem f g 0 n (λ i _ l. h i (omega arith))
