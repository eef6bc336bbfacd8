-- Identifier and length octets by their forms.
-- Assumes nothing.
use mathlib.Core.Bool.{Bool, true}
use mathlib.Core.List.{[], ◌∷◌}
use mathlib.Core.Path.{◌≡◌, refl}
use Prim.Native.Nat.{ℕ, ◌+◌, ◌/◌, ◌%◌, ◌≤◌, ◌<◌}
use native.Mathlib.Omega.{arith}
use borrow.Author.Tests.{ltb-true, ltb-false, lt-ltb, le-ltb}
use lib.Dec.{ltb}
use lib.ListN.{length}
use Rattle.octets.proofs.Tests.{test}
use Rattle.octets.proofs.Answer.{run}
use Rattle.x690.specs.Identifier.{leading, following, identifier}

module _ (c : ℕ) (b : Bool) (n : ℕ) where
  identifier_one : n < 31 → identifier c b n ≡ leading c b n ∷ []
  unfolding identifier
  identifier_one h = simp (run, lt-ltb n 31 h)

  identifier_two : 31 ≤ n → n < 128 → identifier c b n ≡ leading c b 31 ∷ n ∷ []
  unfolding identifier following
  identifier_two g h = simp (run, le-ltb n 31 g, lt-ltb n 128 h)

  identifier_three : 31 ≤ n → 128 ≤ n → n < 16384 → identifier c b n ≡ leading c b 31 ∷ (128 + n / 128) ∷ n % 128 ∷ []
  unfolding identifier following
  identifier_three f g h = simp (run, le-ltb n 31 f, le-ltb n 128 g, lt-ltb n 16384 h)

  identifier_four : 31 ≤ n → 128 ≤ n → 16384 ≤ n → identifier c b n ≡ leading c b 31 ∷ (128 + n / 16384) ∷ (128 + n / 128 % 128) ∷ n % 128 ∷ []
  unfolding identifier following
  identifier_four f g h = simp (run, le-ltb n 31 f, le-ltb n 128 g, le-ltb n 16384 h)

-- the class and the bit do not change how many octets there are
pub identifier_length : (c : ℕ) (b : Bool) (n : ℕ) → length (identifier c b n) ≡ length (identifier 0 true n)
identifier_length c b n =
    test (ltb n 31) (λ e. let h : n < 31 = ltb-true n 31 e in rw (identifier_one c b n h, identifier_one 0 true n h) refl) λ e.
    let f : 31 ≤ n = ltb-false n 31 e in
    test (ltb n 128) (λ e. let h : n < 128 = ltb-true n 128 e in rw (identifier_two c b n f h, identifier_two 0 true n f h) refl) λ e.
    let g : 128 ≤ n = ltb-false n 128 e in
    test (ltb n 16384) (λ e. let h : n < 16384 = ltb-true n 16384 e in rw (identifier_three c b n f g h, identifier_three 0 true n f g h) refl) λ e.
    let h : 16384 ≤ n = ltb-false n 16384 e in
    rw (identifier_four c b n f g h, identifier_four 0 true n f g h) refl

pub identifier_small : (n : ℕ) → length (identifier 0 true n) ≤ 4
identifier_small n =
    test (ltb n 31) (λ e. rw (identifier_one 0 true n (ltb-true n 31 e)) (omega arith)) λ e.
    let f : 31 ≤ n = ltb-false n 31 e in
    test (ltb n 128) (λ e. rw (identifier_two 0 true n f (ltb-true n 128 e)) (omega arith)) λ e.
    let g : 128 ≤ n = ltb-false n 128 e in
    test (ltb n 16384) (λ e. rw (identifier_three 0 true n f g (ltb-true n 16384 e)) (omega arith)) λ e. rw (identifier_four 0 true n f g (ltb-false n 16384
    e)) (omega arith)
