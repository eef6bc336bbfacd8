-- What the index ends as that a check is lent, once nothing borrows it.
-- Assumes nothing.
use mathlib.Core.Option.{none}
use Rattle.std.specs.Prelude.{◌≡◌, ⊤, List, ℕ}
use Rattle.std.specs.Borrow.{follows_so, MutBor, Fml}
use Rattle.checker.specs.declared.passed.Index.{Index}
use Rattle.checker.specs.contracts.passed.Index.{the_row}

abbrev pub EndsAs : MutBor Index → List ℕ → Fml
EndsAs s v = follows_so the_row the_row s.ghost_name none (λ _ _. ⊤) (λ x. x.entries ≡ v)
