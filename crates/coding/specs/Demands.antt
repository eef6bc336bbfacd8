-- What the demands say of the outcomes of reading and writing (FORMATS, "Order of refusals" and "Limits"). That they hold of every outcome
-- is proved in `proofs/Demands`. The table comes in as octets and as the rules that they keep: no verdict that is computed is named here.
-- Assumes nothing.
use Rattle.std.specs.Prelude.{List, ◌++◌, ◌≡◌, ℕ, ◌-◌, ◌≤◌, ◌<◌, min, length, drop}
use Rattle.x690.specs.declared.ReadingCause.{ReadingCause}
use Rattle.table.specs.declared.CheckCause.{CheckCause}
use Rattle.coding.specs.declared.JudgingCause.{JudgingCause}
use Rattle.coding.specs.declared.JudgingCause.TheVariants.{ValueShape}
use Rattle.octets.specs.Answer.{refused}
use Rattle.table.specs.Syntax.{Record, Table, table}
use Rattle.table.specs.Octets.{Spells}
use Rattle.table.specs.Cause.{Breaks}
use Rattle.coding.specs.Value.{Value, octets, depth}
use Rattle.coding.specs.Encodes.{Encodes, Arrives}
use Rattle.coding.specs.Typed.{WellTyped}
use Rattle.coding.specs.Shaped.{Shaped}
use Rattle.coding.specs.Equivalent.{Equivalent}
use Rattle.coding.specs.Form.{form_at}
use Rattle.coding.specs.Judging.{judge_whole}
use Rattle.coding.specs.Reading.{read_message}
use Rattle.coding.specs.Outcome.{levels, longest_value, longest_message, TableCause, MessageRoom, Refusal, of_table, of_value, Told, done, refusal, Outcome, refuse, write_at_start}

-- The answers of a call: done, a refusal of the table, or one of the call's own stage.
pub data Answers {C : Type 0} (stage : C → Refusal) : Told → Type 0 where
  is_done : (k : ℕ) → Answers stage (done k)
  of_the_table : (c : TableCause) → Answers stage (refusal (of_table c))
  of_the_stage : (c : C) → Answers stage (refusal (stage c))

-- A table that is not refused: b are the octets of the records rs, and none of the causes 1 to 6 holds of b.
pub record Accepted (b : List ℕ) (rs : List Record) : Type 0 where
  pub spells : Spells b rs
  pub no_cause : (c : CheckCause) (p : ℕ) → Breaks b p c → ⊥

-- 7: the table is not refused, and the type is none of its records.
pub record NoSuchType (b : List ℕ) (t : ℕ) : Type 0 where
  pub records : List Record
  pub accepted : Accepted b records
  pub beyond : length records ≤ t

-- The table is not refused, the type is one of its records, and P holds of the records by number: so begins every later answer.
pub record OfType (b : List ℕ) (t : ℕ) (P : Table → Type 0) : Type 0 where
  pub records : List Record
  pub accepted : Accepted b records
  pub there : t < length records
  pub holds : P (table records)

-- 22 to 26, 28, 29: the message is not over_long, and the reading of it refuses for this cause, so many octets before its end.
pub record MessageRefused (T : Table) (t : ℕ) (m : List ℕ) (c : ReadingCause) (p : ℕ) : Type 0 where
  pub within : length m ≤ longest_message
  pub left : ℕ
  pub inside : left ≤ length m
  pub reading : read_message T levels t m ≡ refused c left
  pub place : p ≡ length m - left

-- 27: the message is accepted, and its value is longer than the buffer or 16,384 octets.
pub record NoRoomForValue (T : Table) (t : ℕ) (m buf : List ℕ) : Type 0 where
  pub within : length m ≤ longest_message
  pub value : Value
  pub arrives : Arrives T t value m
  pub deep : depth value ≤ levels
  pub over : min longest_value (length buf) < length (octets value)

-- Demand 2, the reader is done: a value of the type, well-typed, at most 24 levels deep, in at most 16,384 octets, for which X.690 permits the
-- message, with the elements of SET OF in the order of arrival. Its length is told, its octets stand at the start of the buffer, the rest is as it was.
pub record Read (T : Table) (t : ℕ) (m buf : List ℕ) (k : ℕ) (after : List ℕ) : Type 0 where
  pub within : length m ≤ longest_message
  pub value : Value
  pub arrives : Arrives T t value m
  pub encodes : Encodes T t value m
  pub typed : WellTyped T t value
  pub deep : depth value ≤ levels
  pub short : length (octets value) ≤ longest_value
  pub room : length (octets value) ≤ length buf
  pub its_length : k ≡ length (octets value)
  pub buffer : after ≡ octets value ++ drop (length (octets value)) buf

-- 11 to 13: the value is over_long, which is 11 at its first octet; or the judging of it refuses for this cause, so many octets before its end.
pub data ValueRefused (T : Table) (t : ℕ) (v : List ℕ) (c : JudgingCause) (p : ℕ) : Type 0 where
  over_long : longest_value < length v → c ≡ ValueShape → p ≡ 0 → ValueRefused T t v c p
  as_judged : (left : ℕ) → length v ≤ longest_value → left ≤ length v → judge_whole T levels t v ≡ refused c left → p ≡ length v - left → ValueRefused T t v c p

-- 14: the octets are those of a value of the type, and its form is longer than the buffer or 8,192 octets.
pub record NoRoomForMessage (T : Table) (t : ℕ) (v buf : List ℕ) : Type 0 where
  pub short : length v ≤ longest_value
  pub value : Value
  pub is : v ≡ octets value
  pub shaped : Shaped value
  pub typed : WellTyped T t value
  pub deep : depth value ≤ levels
  pub over : min longest_message (length buf) < length (form_at T levels t value)

-- Demand 2, the writer is done: the octets were those of a value of the type within the limits, and what stands in the buffer is the one form
-- fixed for it, which is one of the permitted encodings.
pub record Wrote (T : Table) (t : ℕ) (v buf : List ℕ) (k : ℕ) (after : List ℕ) : Type 0 where
  pub value : Value
  pub is : v ≡ octets value
  pub shaped : Shaped value
  pub typed : WellTyped T t value
  pub deep : depth value ≤ levels
  pub short : length v ≤ longest_value
  pub within : length (form_at T levels t value) ≤ longest_message
  pub room : length (form_at T levels t value) ≤ length buf
  pub its_length : k ≡ length (form_at T levels t value)
  pub buffer : after ≡ form_at T levels t value ++ drop (length (form_at T levels t value)) buf
  pub encodes : Encodes T t value (form_at T levels t value)

-- Demand 3, the receiver of the message m that was sent for v: the reader is done with the length of v, and the buffer begins with the octets of
-- a value equivalent to v, the very value as which m arrives. The octets behind them are as they were.
pub record Received (T : Table) (t : ℕ) (v : Value) (m buf : List ℕ) (x : Outcome) : Type 0 where
  pub value : Value
  pub equivalent : Equivalent v value
  pub arrives : Arrives T t value m
  pub answer : x.answer ≡ done (length (octets v))
  pub start : x.buffer ≡ octets value ++ drop (length (octets v)) buf
  pub size : length (octets value) ≡ length (octets v)
  pub shaped : Shaped value
  pub typed : WellTyped T t value
  pub deep : depth value ≤ levels

-- Demand 3, the sender of v: the writer is done exactly when the form fixed for v fits the buffer and 8,192 octets. What it then wrote, of the
-- length it tells, is that form, and one of the permitted encodings.
pub record Sent (T : Table) (t : ℕ) (v : Value) (buf : List ℕ) (x : Outcome) : Type 0 where
  pub when_it_fits : length (form_at T levels t v) ≤ longest_message → length (form_at T levels t v) ≤ length buf → x ≡ write_at_start (form_at T levels t v) buf
  pub else_14 : min longest_message (length buf) < length (form_at T levels t v) → x ≡ refuse (of_value MessageRoom) buf
  pub encodes : length (form_at T levels t v) ≤ longest_message → Encodes T t v (form_at T levels t v)
