-- `reader::search::begins` meets its contract.
-- Assumes nothing.
use Rattle.std.proofs.Common.{◌∙◌, arith}
use Rattle.records.proofs.Promises.{first_described}
use Rattle.reader.proofs.Starts.{begins_itself, begins_not, begins_under, begins_string}
use Rattle.reader.proofs.search.begins.Goals as goal

pub overflow_add-found : goal.overflow_add-found
overflow_add-found c = omega (arith, c.first-found.ensures ∙ first_described _, c.requires)

pub returns-then-found-code : goal.returns-then-found-code
returns-then-found-code c = begins_itself _ _ _ (c.first-found.ensures ∙ first_described _) c.if-found-code.true

pub returns-then-found-code-2 : goal.returns-then-found-code-2
returns-then-found-code-2 c = begins_not _ _ _ (c.first-found.ensures ∙ first_described _) c.if-found-code.false c.if-found-code-2.true

pub returns-then-e-ne0 : goal.returns-then-e-ne0
returns-then-e-ne0 c = begins_under _ _ _ (c.first-found.ensures ∙ first_described _) c.if-found-code.false _ c.describe-e.ensures c.if-e-ne0.true

pub returns : goal.returns
returns c =
    begins_string _ _ _ (c.first-found.ensures ∙ first_described _) c.if-found-code.false _ c.describe-e.ensures c.if-found-code-2.false c.if-e-ne0.false _ c.is_string.ensures
