-- The octets of a time give it back.
-- Assumes nothing.
use mathlib.Core.List.{List, ◌++◌}
use mathlib.Core.Path.{◌≡◌, refl}
use native.Mathlib.Nat.{div-add-mod'}
use Prim.Native.Nat.{ℕ}
use Rattle.dates.specs.declared.DateTime.{DateTime}
use Rattle.dates.specs.Own.{time_octets, time_at}

pub time_back : (t : DateTime) (s : List ℕ) → time_at (time_octets t ++ s) 0 ≡ t
unfolding time_octets time_at
time_back t s = rw (div-add-mod' t.year 256) refl
