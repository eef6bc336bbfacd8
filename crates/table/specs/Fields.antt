-- What the kind of a record says without its own part (FORMATS, "Tables").
-- Assumes nothing.
use Rattle.std.specs.Prelude.{Bool, [], ℕ, eqb}
use Rattle.octets.specs.Tests.{if}
use Rattle.dates.specs.declared.TimeKind.{TimeKind}
use Rattle.dates.specs.declared.TimeKind.TheVariants.{Utc, Generalized}
use Rattle.table.specs.Syntax.{universal, constructed}
use Rattle.table.specs.Reading.{body_at}

-- the UNIVERSAL number and the constructed bit; a number that is no kind counts as CHOICE, as in `body_at`
abbrev pub universal_of : ℕ → ℕ
universal_of k = universal (body_at [] k 0)

abbrev pub constructed_of : ℕ → Bool
constructed_of k = constructed (body_at [] k 0)

-- which time a kind is, if it is one
unfoldable pub time_kind : ℕ → TimeKind
time_kind k = if (eqb k 23) Utc λ _. Generalized
