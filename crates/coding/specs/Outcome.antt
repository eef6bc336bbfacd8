-- The refusals with their numbers and places, and the outcomes of check, write, read and conversions of times: the answer, and what the lent
-- buffer then holds (FORMATS, "Refusals" and "Limits").
-- Assumes nothing.
use Rattle.std.specs.Prelude.{List, ◌++◌, ℕ, length, drop, Result}
use Rattle.x690.specs.declared.ReadingCause.{ReadingCause}
use Rattle.table.specs.declared.CheckCause.{CheckCause}
use Rattle.coding.specs.declared.JudgingCause.{JudgingCause}
use Rattle.coding.specs.declared.Report.{Report}
pub use Rattle.coding.specs.declared.TableCause.{TableCause}
pub use Rattle.coding.specs.declared.TableCause.TheVariants.{Unknown}
pub use Rattle.coding.specs.declared.ValueCause.{ValueCause}
pub use Rattle.coding.specs.declared.ValueCause.TheVariants.{MessageRoom}
pub use Rattle.coding.specs.declared.MessageCause.{MessageCause}
pub use Rattle.coding.specs.declared.MessageCause.TheVariants.{MessageLength, ValueRoom}
pub use Rattle.coding.specs.declared.Refusal.{Refusal}
pub use Rattle.coding.specs.declared.Refusal.TheVariants.{Table as of_table, Value as of_value, Message as of_message}
pub use Rattle.std.specs.Prelude.{Ok as done, Err as refusal}

-- the limits of a value and of a message
abbrev pub levels : ℕ
levels = 24

abbrev pub longest_value : ℕ
longest_value = 16384

abbrev pub longest_message : ℕ
longest_message = 8192

-- what the check of a table, the judging of a value and the reading of a message refuse, at a place
abbrev pub table_cause : CheckCause → ℕ → TableCause
table_cause CheckCause.TableShape p = TableCause.TableShape p
table_cause CheckCause.NoRecord p = TableCause.NoRecord p
table_cause CheckCause.WrongTag p = TableCause.WrongTag p
table_cause CheckCause.ChoiceLoop p = TableCause.ChoiceLoop p
table_cause CheckCause.SharedTag p = TableCause.SharedTag p
table_cause CheckCause.NoValue p = TableCause.NoValue p

abbrev pub value_cause : JudgingCause → ℕ → ValueCause
value_cause JudgingCause.ValueShape p = ValueCause.ValueShape p
value_cause JudgingCause.IllTyped p = ValueCause.IllTyped p
value_cause JudgingCause.ValueLevel p = ValueCause.ValueLevel p

abbrev pub message_cause : ReadingCause → ℕ → MessageCause
message_cause ReadingCause.Cut p = MessageCause.Cut p
message_cause ReadingCause.Forbidden p = MessageCause.Forbidden p
message_cause ReadingCause.NotAwaited p = MessageCause.NotAwaited p
message_cause ReadingCause.Contents p = MessageCause.Contents p
message_cause ReadingCause.Trailing p = MessageCause.Trailing p
message_cause ReadingCause.MessageLevel p = MessageCause.MessageLevel p
message_cause ReadingCause.LengthField p = MessageCause.LengthField p

-- The number and the place of every cause: 1 to 7 are of the table, 11 to 14 of the value, all others of the message.
abbrev pub report : ℕ → ℕ → Report
report n p = record { number = n; place = p }

abbrev pub table_report : TableCause → Report
table_report (TableCause.TableShape p) = report 1 p
table_report (TableCause.NoRecord p) = report 2 p
table_report (TableCause.WrongTag p) = report 3 p
table_report (TableCause.ChoiceLoop p) = report 4 p
table_report (TableCause.SharedTag p) = report 5 p
table_report (TableCause.NoValue p) = report 6 p
table_report Unknown = report 7 0

abbrev pub value_report : ValueCause → Report
value_report (ValueCause.ValueShape p) = report 11 p
value_report (ValueCause.IllTyped p) = report 12 p
value_report (ValueCause.ValueLevel p) = report 13 p
value_report MessageRoom = report 14 0

abbrev pub message_report : MessageCause → Report
message_report (MessageLength p) = report 21 p
message_report (MessageCause.Cut p) = report 22 p
message_report (MessageCause.Forbidden p) = report 23 p
message_report (MessageCause.NotAwaited p) = report 24 p
message_report (MessageCause.Contents p) = report 25 p
message_report (MessageCause.Trailing p) = report 26 p
message_report ValueRoom = report 27 0
message_report (MessageCause.MessageLevel p) = report 28 p
message_report (MessageCause.LengthField p) = report 29 p

abbrev pub report_of : Refusal → Report
report_of (of_table c) = table_report c
report_of (of_value c) = value_report c
report_of (of_message c) = message_report c

abbrev pub number_of : Refusal → ℕ
number_of r = (report_of r).number

abbrev pub place_of : Refusal → ℕ
place_of r = (report_of r).place

-- done, with the length written; or refused
abbrev pub Told : Type 0
Told = Result ℕ Refusal

-- what is told, and what the lent buffer then holds
pub record Outcome : Type 0 where
  pub answer : Told
  pub buffer : List ℕ

-- a refusal leaves the buffer as it was
abbrev pub refuse : Refusal → List ℕ → Outcome
refuse r buf = record { answer = refusal r; buffer = buf }

-- what is written stands at the start, and the rest is as it was
abbrev pub write_at_start : List ℕ → List ℕ → Outcome
write_at_start w buf = record { answer = done (length w); buffer = w ++ drop (length w) buf }
