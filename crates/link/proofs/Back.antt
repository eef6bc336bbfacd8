-- A packed answer tells that very answer, and no other.
-- Assumes nothing.
use mathlib.Core.Path.{◌≡◌, sym, ap, ◌∙◌}
use Prim.Native.Nat.{ℕ, ◌<◌}
use native.Mathlib.Omega.{arith}
use Rattle.coding.specs.Outcome.{Told, done, refusal}
use Rattle.coding.proofs.Causes.{same_refusal, never_0}
use Rattle.link.specs.Pack.{high_part, low_part, packed, Tells}

pub packed_tells : (a : Told) → low_part a < 65536 → Tells (packed a) a
packed_tells a h = record { high = omega arith; low = omega arith }

same_answer : (a b : Told) → high_part a ≡ high_part b → low_part a ≡ low_part b → a ≡ b
same_answer (done n) (done m) e f = ap done f
same_answer (done n) (refusal r) e f = absurd (never_0 r (sym e))
same_answer (refusal r) (done m) e f = absurd (never_0 r e)
same_answer (refusal r) (refusal s) e f = ap refusal (same_refusal r s e f)

pub tells_one : {u : ℕ} {a b : Told} → Tells u a → Tells u b → a ≡ b
tells_one {u} {a} {b} x y = same_answer a b (sym x.high ∙ y.high) (sym x.low ∙ y.low)
