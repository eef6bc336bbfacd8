-- What stands at a place of contents: an item, their end, or neither (X.690, 8.1.5; FORMATS, "Order of refusals").
-- Assumes nothing.
use Rattle.std.specs.Prelude.{List, ℕ, Option, Some, None, Result, Ok, Err}
use Rattle.x690.specs.declared.ReadingCause.{ReadingCause}
use Rattle.x690.specs.declared.ReadingCause.TheVariants.{NotAwaited}
use Rattle.octets.specs.Answer.{if}
use Rattle.reader.specs.Items.{Holder, manner, is_single, lacks}

-- where contents may end, if they are over; parts are left from the i-th on
unfoldable pub at_ending : Holder → ℕ → List ℕ → Result (Option ℕ) ReadingCause → Result (Option ℕ) ReadingCause
at_ending h i came (Ok None) = Ok None
at_ending h i came (Ok (Some e)) = if (lacks h i came) (Err NotAwaited) λ _. Ok (Some e)
at_ending h i came (Err c) = Err c

-- a CHOICE and a message have one item and no end
unfoldable pub standing : Holder → ℕ → List ℕ → Result (Option ℕ) ReadingCause → Result (Option ℕ) ReadingCause
standing h i came x = if (is_single (manner h)) (Ok None) λ _. at_ending h i came x
