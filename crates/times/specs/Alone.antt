-- A time that is handed in alone, as the operations answer it: what is no time is refused at place 0 (FORMATS, "Times").
-- Assumes nothing.
use Rattle.std.specs.Prelude.{Result, Ok, Err}
use Rattle.dates.specs.declared.DateTime.{DateTime}
use Rattle.coding.specs.declared.Refusal.{Refusal}
use Rattle.coding.specs.declared.Refusal.TheVariants.{Value}
use Rattle.coding.specs.Outcome.{value_cause}
use Rattle.coding.specs.Reckoning.{Given}

abbrev pub at_start : Given → Result DateTime Refusal
at_start (Ok t) = Ok t
at_start (Err c) = Err (Value (value_cause c 0))
