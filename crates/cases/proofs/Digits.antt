-- Digits as the program prints them are those of the definitions: the fewest in decimal, and two more for each octet in hexadecimal.
-- Assumes nothing.
use mathlib.Core.List.{List, [], ◌∷◌, ◌++◌, append_assoc}
use mathlib.Core.Path.{◌≡◌, refl, sym}
use Prim.Native.Nat.{ℕ, zero, suc, ◌+◌, ◌-◌, ◌*◌, ◌/◌, ◌%◌, ◌^◌, ◌≤◌, ◌<◌}
use native.Mathlib.Numerals.{add-one}
use native.Mathlib.Omega.{arith}
use lib.ListN.{length, take, drop, set, get_or, length-set}
use borrow.Author.Tests.{lt-ltb}
use Rattle.std.specs.Fmt.{decimal as std·decimal}
use Rattle.std.proofs.lemmas.Fmt.{decimal_from_appends, length-decimal-le_succ, decimal_step, decimal_digit}
use Rattle.std.proofs.lemmas.List.{take_more_set, drop-set}
use Rattle.cases.specs.Output.{digit, figures, decimal, pair, hexadecimal, shown}

-- the last k digits at most, and at least one if k is not 0
last : ℕ → ℕ → List ℕ
last zero n = []
last (suc k) n = figures k (n / 10) ++ (digit (n % 10) ∷ [])

figures_none : (k : ℕ) → figures k 0 ≡ []
unfolding figures
figures_none zero = refl
figures_none (suc k) = refl

figures_last : (k n : ℕ) → 0 < n → figures k n ≡ last k n
unfolding figures last
figures_last zero n h = refl
figures_last (suc k) zero h = absurd (omega arith)
figures_last (suc k) (suc n) h = refl

digit_decimal : (n : ℕ) → n < 10 → digit n ≡ 48 + n
digit_decimal n h = rw (lt-ltb n 10 h) refl

pub decimal_same : (n : ℕ) → n < 2 ^ 64 → std·decimal n ≡ decimal n
unfolding decimal last
decimal_same n h = sym (decimal_from_appends last (record { one = one; more = more }) (suc n) n h (omega (arith, length-decimal-le_succ n h)))
  where
    one : (k m : ℕ) → m < 10 → last (suc k) m ≡ (48 + m) ∷ []
    one k m l =
        let q : m / 10 ≡ 0 = omega arith in
        let r : m % 10 ≡ m = omega arith in
        rw (q, r, figures_none k, digit_decimal m l) refl

    more : (k m : ℕ) → 10 ≤ m → last (suc k) m ≡ last k (m / 10) ++ ((48 + m % 10) ∷ [])
    more k m l = rw (figures_last k (m / 10) (omega arith), digit_decimal (m % 10) (omega arith)) refl

-- a digit more is stored before the others, and the first one
module _ (n at : ℕ) (d : List ℕ) (s : 1 ≤ at) (l : at ≤ length d) where
  after : at - 1 + 1 ≡ at
  after = omega arith

  pub digit_stored : 10 ≤ n → n < 2 ^ 64 → std·decimal (n / 10) ++ drop (at - 1) (set d (at - 1) (48 + n % 10)) ≡ std·decimal n ++ drop at d
  digit_stored h k = rw (drop-set d (at - 1) (48 + n % 10) (omega arith), after, decimal_step n h k, append_assoc) refl

  pub first_stored : n < 10 → drop (at - 1) (set d (at - 1) (48 + n)) ≡ std·decimal n ++ drop at d
  first_stored h = rw (drop-set d (at - 1) (48 + n) (omega arith), after, decimal_digit n h) refl

-- i octets, and one more
hexadecimal_next : (s : List ℕ) (i : ℕ) → i < length s → hexadecimal (take i s) ++ pair (get_or s i 0) ≡ hexadecimal (take (suc i) s)
unfolding hexadecimal pair
hexadecimal_next [] i h = absurd (omega arith)
hexadecimal_next (o ∷ s) zero h = refl
hexadecimal_next (o ∷ s) (suc i) h = rw (hexadecimal_next s i (omega arith)) refl

pub hexadecimal_length : (s : List ℕ) → length (hexadecimal s) ≡ 2 * length s
unfolding hexadecimal pair
hexadecimal_length [] = refl
hexadecimal_length (o ∷ s) = omega (arith, hexadecimal_length s)

-- and the two digits of one more are stored
pub hexadecimal_more : (s d : List ℕ) (i : ℕ) → i < length s → length d ≡ 2 * length s → take (2 * i) d ≡ hexadecimal (take i s)
    → take (2 * (i + 1)) (set (set d (2 * i) (digit (get_or s i 0 / 16))) (2 * i + 1) (digit (get_or s i 0 % 16))) ≡ hexadecimal (take (i + 1) s)
unfolding pair
hexadecimal_more s d i h l e =
    let x = digit (get_or s i 0 / 16) in
    let y = digit (get_or s i 0 % 16) in
    let m = set d (2 * i) x in
    let k : 2 * (i + 1) ≡ 2 * i + 1 + 1 = omega arith in
    let first : take (2 * i + 1) m ≡ take (2 * i) d ++ x ∷ [] = take_more_set d (2 * i) x (omega arith) in
    let second : take (2 * i + 1 + 1) (set m (2 * i + 1) y) ≡ take (2 * i + 1) m ++ y ∷ [] = take_more_set m (2 * i + 1) y (omega (arith, length-set d (2 * i) x)) in
    rw (k, second, first, e, append_assoc, add-one) (hexadecimal_next s i h)

-- a result, if there is one
pub shown_none : (s : List ℕ) → length s ≡ 0 → shown s ≡ []
unfolding shown
shown_none [] e = refl
shown_none (o ∷ s) e = absurd (omega arith)

pub shown_some : (s : List ℕ) → (length s ≡ 0 → ⊥) → shown s ≡ 32 ∷ hexadecimal s
unfolding shown
shown_some [] h = absurd (h refl)
shown_some (o ∷ s) h = refl
