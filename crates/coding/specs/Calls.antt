-- The outcomes of check, write and read as they are computed from octets. What they come to is said by rules alone in `Demands`.
-- Assumes nothing.
use Rattle.std.specs.Prelude.{not, List, ℕ, ◌-◌, min, ltb, leb, length, Ok, Err}
use Rattle.x690.specs.declared.ReadingCause.{ReadingCause}
use Rattle.coding.specs.declared.JudgingCause.{JudgingCause}
use Rattle.coding.specs.declared.JudgingCause.TheVariants.{ValueShape}
use Rattle.octets.specs.Answer.{Answer, got, refused, if}
use Rattle.table.specs.Syntax.{Table}
use Rattle.table.specs.Verdict.{verdict, Verdict}
use Rattle.table.specs.Reading.{scan, look}
use Rattle.coding.specs.Value.{Value, octets}
use Rattle.coding.specs.Form.{form_at}
use Rattle.coding.specs.Reading.{read_message}
use Rattle.coding.specs.Judging.{judge_whole}
use Rattle.coding.specs.Outcome.{levels, longest_value, longest_message, Unknown, table_cause, MessageRoom, value_cause, MessageLength, ValueRoom, message_cause}
use Rattle.coding.specs.Outcome.{of_table, of_value, of_message, Told, done, refusal, Outcome, refuse, write_at_start}

-- 27 only for a message that is accepted; the place of a refusal counts from the start of the message m
unfoldable pub after_reading : List ℕ → List ℕ → Answer ReadingCause Value → Outcome
after_reading m buf (got v r) =
    if (not (leb (length (octets v)) (min longest_value (length buf)))) (refuse (of_message ValueRoom) buf) λ _.
    write_at_start (octets v) buf
after_reading m buf (refused c l) = refuse (of_message (message_cause c (length m - l))) buf

-- read: 7, 21, then from the left, then 27
unfoldable pub read_outcome : Table → ℕ → ℕ → List ℕ → List ℕ → Outcome
read_outcome T n t m buf =
    if (not (ltb t n)) (refuse (of_table Unknown) buf) λ _.
    if (not (leb (length m) longest_message)) (refuse (of_message (MessageLength 0)) buf) λ _.
    after_reading m buf (read_message T levels t m)

-- 14 only for a value that is accepted; f is the form of the values
unfoldable pub after_judging : (Value → List ℕ) → List ℕ → List ℕ → Answer JudgingCause Value → Outcome
after_judging f b buf (got v r) =
    if (not (leb (length (f v)) (min longest_message (length buf)))) (refuse (of_value MessageRoom) buf) λ _.
    write_at_start (f v) buf
after_judging f b buf (refused c l) = refuse (of_value (value_cause c (length b - l))) buf

-- write: 7; 11 at 0 for over_long octets, with no look at a node; then from the left; then 14
unfoldable pub write_outcome : Table → ℕ → ℕ → List ℕ → List ℕ → Outcome
write_outcome T n t b buf =
    if (not (ltb t n)) (refuse (of_table Unknown) buf) λ _.
    if (not (leb (length b) longest_value)) (refuse (of_value (value_cause ValueShape 0)) buf) λ _.
    after_judging (form_at T levels t) b buf (judge_whole T levels t b)

-- 1 to 6 first, in every call; x is what follows for the records by number and their count
unfoldable pub after_check : List ℕ → List ℕ → (Table → ℕ → Outcome) → Verdict → Outcome
after_check b buf x (Ok u) = x (look b (scan b).offsets) (length (scan b).offsets)
after_check b buf x (Err f) = refuse (of_table (table_cause f.cause f.place)) buf

-- write: the octets b of a table, a type, the octets v of a value, a buffer
unfoldable pub whole_write : List ℕ → ℕ → List ℕ → List ℕ → Outcome
whole_write b t v buf = after_check b buf (λ T n. write_outcome T n t v buf) (verdict b)

-- read: the octets b of a table, a type, a message, a buffer
unfoldable pub whole_read : List ℕ → ℕ → List ℕ → List ℕ → Outcome
whole_read b t m buf = after_check b buf (λ T n. read_outcome T n t m buf) (verdict b)

-- check: nothing is written
unfoldable pub check_answer : Verdict → Told
check_answer (Ok u) = done 0
check_answer (Err f) = refusal (of_table (table_cause f.cause f.place))
