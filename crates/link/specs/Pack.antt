-- Answers as one number for C (FORMATS, "Answers for C"). Of check, write and read: the number of the refusal, or 0 for done, times 65,536, and its place,
-- or the length written.
-- Assumes nothing.
use Rattle.std.specs.Prelude.{◌≡◌, ℕ, ◌+◌, ◌*◌, ◌/◌, ◌%◌, ◌≤◌, ◌<◌, ℤ, pos, negsuc, Ok, Err}
use Rattle.coding.specs.Outcome.{number_of, place_of, Told, done, refusal}
use Rattle.coding.specs.declared.Refusal.{Refusal}
use Rattle.coding.specs.Reckoning.{Reckoned}

abbrev pub high_part : Told → ℕ
high_part (done n) = 0
high_part (refusal r) = number_of r

abbrev pub low_part : Told → ℕ
low_part (done n) = n
low_part (refusal r) = place_of r

abbrev pub packed : Told → ℕ
packed a = high_part a * 65536 + low_part a

-- what the number u tells in C, taken apart, is the answer a
pub record Tells (u : ℕ) (a : Told) : Type 0 where
  pub high : u / 65536 ≡ high_part a
  pub low : u % 65536 ≡ low_part a

-- A reckoning with times: the result itself, which may be negative; or the number of the refusal times 2 ^ 40, which no result reaches. Its place is 0.
abbrev pub beyond : ℕ
beyond = 1099511627776

abbrev pub packed_reckoning : Reckoned → ℤ
packed_reckoning (Ok z) = z
packed_reckoning (Err r) = pos (number_of r * beyond)

abbrev pub Below : ℤ → Type 0
Below (pos n) = n < beyond
Below (negsuc n) = Unit {0}

-- what the number u tells in C of a reckoning: below 2 ^ 40 the result, else the refusal whose number the quotient is
pub data TellsReckoning : ℤ → Reckoned → Type 0 where
  a_result : {z : ℤ} → Below z → TellsReckoning z (Ok z)
  a_refusal : {n : ℕ} {r : Refusal} → beyond ≤ n → n / beyond ≡ number_of r → place_of r ≡ 0 → TellsReckoning (pos n) (Err r)
