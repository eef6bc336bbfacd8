-- What the judge says of an answer of the definitions, and what is written of one that is done.
-- Assumes nothing.
use Rattle.std.specs.Prelude.{List, [], ℕ, ◌-◌, length, Result, Ok, Err}
use Rattle.coding.specs.declared.JudgingCause.{JudgingCause}
use Rattle.coding.specs.declared.Unfit.{Unfit}
use Rattle.octets.specs.Answer.{Answer, got, refused}
use Rattle.writer.specs.Frames.{cap}
use Rattle.writer.specs.declared.judge.Judged.{Judged}

-- what the judge answers: of a part of the value that it accepts, where it ends and how many octets are written of it; or why not
abbrev pub Ruling : Type 0
Ruling = Result Judged Unfit

abbrev pub fit : ℕ → ℕ → Ruling
fit e k = Ok (record { end = e; size = k })

abbrev pub unfit : JudgingCause → ℕ → Ruling
unfit c p = Err (record { cause = c; place = p })

-- where it ends in v and how many octets are written of it, to 8,193; or the cause with its place in v
unfoldable pub told : {A : Type 0} → (A → List ℕ) → List ℕ → Answer JudgingCause A → Ruling
told f v (got a w) = fit (length v - length w) (cap (length (f a)))
told f v (refused c l) = unfit c (length v - l)

unfoldable pub written : {A : Type 0} → (A → List ℕ) → Answer JudgingCause A → List ℕ
written f (got a w) = f a
written f (refused c l) = []

-- where it ends in v
unfoldable pub ended : {A : Type 0} → List ℕ → Answer JudgingCause A → ℕ
ended v (got a w) = length v - length w
ended v (refused c l) = 0

unfoldable pub IsDone : {A : Type 0} → Answer JudgingCause A → Type 0
IsDone (got a w) = Unit {0}
IsDone (refused c l) = ⊥
