-- What is answered for a time tells what was handed in.
-- Assumes nothing.
use mathlib.Core.Path.{◌≡◌, refl, sym, ap}
use native.Mathlib.Omega.{arith}
use Prim.Native.Nat.{ℕ}
use lib.IntN.{ℤ}
use Rattle.std.specs.Prelude.{Result, Ok, Err}
use Rattle.dates.specs.declared.DateTime.{DateTime}
use Rattle.coding.specs.declared.JudgingCause.{JudgingCause}
use Rattle.coding.specs.declared.Refusal.{Refusal}
use Rattle.coding.specs.declared.Refusal.TheVariants.{Value}
use Rattle.coding.specs.Outcome.{value_cause}
use Rattle.coding.specs.Reckoning.{Given, reckoned_by}
use Rattle.times.specs.Alone.{at_start}

abbrev accepted : Result DateTime Refusal → ℕ
accepted (Ok t) = 1
accepted (Err r) = 0

pub time_of : (x : Given) {t : DateTime} → Ok t ≡ at_start x → x ≡ Ok t
time_of (Ok u) {t} e = let q : u ≡ t = cc in ap Ok q
time_of (Err c) e = let q : ◌≡◌ {A = ℕ} 1 0 = ap accepted e in absurd (omega arith)

pub refused_of : (x : Given) {r : Refusal} → Err r ≡ at_start x → (c : JudgingCause) × (x ≡ Err c) × (r ≡ Value (value_cause c 0))
refused_of (Ok u) e = let q : ◌≡◌ {A = ℕ} 0 1 = ap accepted e in absurd (omega arith)
refused_of (Err c) {r} e = let q : r ≡ Value (value_cause c 0) = cc in (c, refl, q)

-- a reckoning is refused as the first of its times, else as the second
pub first_wrong : (x y : Given) {r : Refusal} → Err r ≡ at_start x → (f : DateTime → DateTime → ℤ) → reckoned_by f x y ≡ Err r
unfolding reckoned_by
first_wrong x y e f = let (c, q, k) = refused_of x e in rw q (ap Err (sym k))

pub second_wrong : (x y : Given) {a : DateTime} {r : Refusal} → Ok a ≡ at_start x → Err r ≡ at_start y → (f : DateTime → DateTime → ℤ) → reckoned_by f x y ≡ Err r
unfolding reckoned_by
second_wrong x y e h f = let (c, q, k) = refused_of y h in rw (time_of x e, q) (ap Err (sym k))
