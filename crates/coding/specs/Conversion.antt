-- A UTCTime as a GeneralizedTime by a link version's window, and back, on octets, with 7, 11, 12 and 27 (FORMATS, "Centuries").
-- Assumes nothing.
use Rattle.std.specs.Prelude.{true, false, not, List, ◌≡◌, ℕ, ◌≤◌, ◌<◌, leb, length, Ok, Err}
use Rattle.coding.specs.declared.JudgingCause.TheVariants.{ValueShape, IllTyped}
use Rattle.octets.specs.Tests.{if}
use Rattle.dates.specs.declared.DateTime.{DateTime}
use Rattle.dates.specs.declared.TimeKind.{TimeKind}
use Rattle.dates.specs.declared.TimeKind.TheVariants.{Utc, Generalized}
use Rattle.dates.specs.Century.{is_version, first_year, in_window, to_utc, to_generalized, Shortens}
use Rattle.coding.specs.Outcome.{Unknown, value_cause, ValueRoom, Refusal, of_table, of_value, of_message, Outcome, refuse, write_at_start}
use Rattle.coding.specs.Reckoning.{is_lone, given, time_node, Stands, Given}

abbrev pub other_kind : TimeKind → TimeKind
other_kind Utc = Generalized
other_kind Generalized = Utc

-- what a time of a kind is as one of the other, by the window from f on; a GeneralizedTime outside it is nothing (12)
unfoldable pub counterpart : ℕ → TimeKind → DateTime → Given
counterpart f Utc u = Ok (to_generalized f u)
counterpart f Generalized g = if (not (in_window f g.year)) (Err IllTyped) λ _. Ok (to_utc g)

unfoldable pub converted : ℕ → TimeKind → Given → Given
converted f k (Err c) = Err c
converted f k (Ok t) = counterpart f k t

-- the node of a time in the buffer, if that has room for its ten octets (27)
unfoldable pub placed : TimeKind → List ℕ → Given → Outcome
placed k buf (Err c) = refuse (of_value (value_cause c 0)) buf
placed k buf (Ok t) =
    if (not (leb 10 (length buf))) (refuse (of_message ValueRoom) buf) λ _.
    write_at_start (time_node k t) buf

-- a time of kind k becomes one of the other: by a link version v (7), the octets s of its node, a buffer
unfoldable pub whole_conversion : TimeKind → ℕ → List ℕ → List ℕ → Outcome
whole_conversion k v s buf =
    if (not (is_version v)) (refuse (of_table Unknown) buf) λ _.
    placed (other_kind k) buf (converted (first_year v) k (given k s))

abbrev pub whole_to_generalized : ℕ → List ℕ → List ℕ → Outcome
whole_to_generalized = whole_conversion Utc

abbrev pub whole_to_utc : ℕ → List ℕ → List ℕ → Outcome
whole_to_utc = whole_conversion Generalized

-- By the window from f on, a time of kind k is the same as one of the other kind.
abbrev pub Same : ℕ → TimeKind → DateTime → DateTime → Type 0
Same f Utc u g = Shortens f u g
Same f Generalized g u = Shortens f u g

-- the octets s are those of a time in range, and it is the same as another by the window of the version v
pub record Counterparts (k : TimeKind) (v : ℕ) (s : List ℕ) (from to : DateTime) : Type 0 where
  pub stands : Stands k s from
  pub same : Same (first_year v) k from to

-- a conversion is done: the version is in service, the time has a counterpart, and its node has room
pub record Converts (k : TimeKind) (v : ℕ) (s buf : List ℕ) (x : Outcome) : Type 0 where
  pub version : is_version v ≡ true
  pub from : DateTime
  pub to : DateTime
  pub counterparts : Counterparts k v s from to
  pub room : 10 ≤ length buf
  pub is : x ≡ write_at_start (time_node (other_kind k) to) buf

-- it is refused: 7, 11, 12, 27, in this order, and the place is 0
pub data Refuses (k : TimeKind) (v : ℕ) (s buf : List ℕ) : Refusal → Type 0 where
  no_version : is_version v ≡ false → Refuses k v s buf (of_table Unknown)
  no_node : is_version v ≡ true → is_lone s ≡ false → Refuses k v s buf (of_value (value_cause ValueShape 0))
  no_time : is_version v ≡ true → is_lone s ≡ true → ((from to : DateTime) → Counterparts k v s from to → ⊥) → Refuses k v s buf (of_value (value_cause IllTyped 0))
  no_room : is_version v ≡ true → {from to : DateTime} → Counterparts k v s from to → length buf < 10 → Refuses k v s buf (of_message ValueRoom)
