-- An octet that no kind has is no shaped node's.
-- Assumes nothing.
use Rattle.std.proofs.Common.{sym, ◌∙◌, ◌+◌, refl}
use Rattle.std.proofs.lemmas.Option.{none-some}
use Rattle.writer.proofs.Nodes.{no_kind}
use Rattle.writer.proofs.judge.shaped.Goals as goal

pub returns-in_default : goal.returns-in_default
returns-in_default c =
    let a = c.args in
    rw (no_kind _ a.v.now (a.at + 3) (λ j e. none-some _ (sym c.in_default.is ∙ (c.of.ensures j).1 e))) refl
