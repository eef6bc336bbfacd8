-- The answers of the judge in terms of the definitions of reading.
-- Assumes nothing.
use Rattle.std.specs.Prelude.{List, ℕ, ◌-◌, min, length, Result, Ok, Err}
use Rattle.x690.specs.declared.ReadingCause.{ReadingCause}
use Rattle.x690.specs.declared.Unread.{Unread}
use Rattle.octets.specs.Answer.{Answer, got, refused}
use Rattle.coding.specs.Value.{Value, octets}
use Rattle.reader.specs.declared.answer.Judged.{Judged}

-- lengths of values beyond 16,384 are all one
abbrev pub cap : ℕ → ℕ
cap n = min 16385 n

abbrev pub judged : ℕ → ℕ → Result Judged Unread
judged e n = Ok (record { end = e; size = n })

abbrev pub unread : {A : Type 0} → ReadingCause → ℕ → Result A Unread
unread c l = Err (record { cause = c; left = l })

-- where what was read ends, and what f makes of it; or the cause, and how many octets are left
unfoldable pub told : {A : Type 0} → List ℕ → (A → ℕ) → Answer ReadingCause A → Result Judged Unread
told m f (got a u) = judged (length m - length u) (cap (f a))
told m f (refused c l) = unread c l

abbrev pub size : Value → ℕ
size v = length (octets v)
