-- The order of two GeneralizedTimes and the seconds from the first to the second, on octets, with 11 and 12 (FORMATS, "Times").
-- Assumes nothing.
use Rattle.std.specs.Prelude.{Bool, true, false, not, ◌&&◌, List, ◌≡◌, ℕ, leb, eqb, ℤ, length, get_or, Result, Ok, Err}
use Rattle.coding.specs.declared.JudgingCause.{JudgingCause}
use Rattle.coding.specs.declared.JudgingCause.TheVariants.{ValueShape, IllTyped}
use Rattle.octets.specs.Answer.{Answer, got, refused, none_left}
use Rattle.octets.specs.Tests.{if}
use Rattle.octets.specs.Lists.{any}
use Rattle.dates.specs.declared.DateTime.{DateTime}
use Rattle.dates.specs.declared.TimeKind.{TimeKind}
use Rattle.dates.specs.declared.TimeKind.TheVariants.{Generalized}
use Rattle.dates.specs.Calendar.{in_range}
use Rattle.dates.specs.Own.{time_at}
use Rattle.dates.specs.Seconds.{order, elapsed}
use Rattle.coding.specs.Value.{time_number, time, leaf_octets}
use Rattle.coding.specs.Judging.{Node, a_leaf, a_sequence, a_set, a_sequence_of, a_set_of, a_choice, read_node}
use Rattle.coding.specs.Outcome.{longest_value, value_cause, Refusal, of_value}

-- no node stands below a node: no member is present, there is no element; below a CHOICE there always is one
unfoldable pub childless : Node → Bool
childless (a_leaf x) = true
childless (a_sequence bs) = not (any (λ b. b) bs)
childless (a_set bs) = not (any (λ b. b) bs)
childless (a_sequence_of n) = eqb n 0
childless (a_set_of n) = eqb n 0
childless (a_choice i) = false

unfoldable pub is_whole : Answer JudgingCause Node → Bool
is_whole (got x r) = none_left r && childless x
is_whole (refused c l) = false

-- the octets are those of one shaped node alone, without children, and not over_long
unfoldable pub is_lone : List ℕ → Bool
is_lone s = leb (length s) longest_value && is_whole (read_node s)

-- a time that was handed in, or what it is converted to; or why there is none
abbrev pub Given : Type 0
Given = Result DateTime JudgingCause

-- what a reckoning with two GeneralizedTimes answers: a number; or refused
abbrev pub Reckoned : Type 0
Reckoned = Result ℤ Refusal

-- the time of kind k that the octets are: they are a lone node (11), of that kind (12)
unfoldable pub given : TimeKind → List ℕ → Given
given k s =
    if (not (is_lone s)) (Err ValueShape) λ _.
    if (not (eqb (get_or s 2 0) (time_number k))) (Err IllTyped) λ _.
    Ok (time_at s 3)

-- f of two that are given; the first is judged wholly before the second, and the place is 0
unfoldable pub reckoned_by : (DateTime → DateTime → ℤ) → Given → Given → Reckoned
reckoned_by f (Err c) y = Err (of_value (value_cause c 0))
reckoned_by f (Ok a) (Err c) = Err (of_value (value_cause c 0))
reckoned_by f (Ok a) (Ok b) = Ok (f a b)

abbrev pub whole_order : List ℕ → List ℕ → Reckoned
whole_order s t = reckoned_by order (given Generalized s) (given Generalized t)

abbrev pub whole_seconds : List ℕ → List ℕ → Reckoned
whole_seconds s t = reckoned_by elapsed (given Generalized s) (given Generalized t)

-- Octets that are those of a time in range, and nothing else.
abbrev pub time_node : TimeKind → DateTime → List ℕ
time_node k t = leaf_octets (time k t)

pub record Stands (k : TimeKind) (s : List ℕ) (t : DateTime) : Type 0 where
  pub octets : s ≡ time_node k t
  pub ranged : in_range k t ≡ true

-- a reckoning is done with two GeneralizedTimes, and with z
pub record Reckons (f : DateTime → DateTime → ℤ) (s t : List ℕ) (z : ℤ) : Type 0 where
  pub first : DateTime
  pub second : DateTime
  pub a_time : Stands Generalized s first
  pub another : Stands Generalized t second
  pub is : f first second ≡ z
