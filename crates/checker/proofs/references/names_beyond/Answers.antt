-- A simple record names none; any other names its parts.
use Rattle.std.proofs.Common.{◌∙◌, ap, arith}
use Rattle.octets.specs.Lists.{any}
use Rattle.checker.proofs.Rules.{near_span, none_named}
use Rattle.records.proofs.Entries.{entered_span}
use Rattle.checker.proofs.references.names_beyond.Goals as goal

pub returns-then-e : goal.returns-then-e
returns-then-e c = λ r x. none_named x.entered _ c.if-e.true

pub dangling-requires : goal.dangling-requires
dangling-requires c = rw c.parts.ensures (near_span _ _ _ (λ i. omega (arith, c.type_inv.table i)) (omega arith))

pub returns : goal.returns
returns c = λ r x. c.dangling.ensures ∙ ap (any _) (rw c.parts.ensures (entered_span x.entered))
