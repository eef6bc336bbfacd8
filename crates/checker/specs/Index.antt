-- What the check leaves in the index that it is lent, how many records it counts, and what it says of one cause (FORMATS, "Tables").
-- Assumes nothing.
use Rattle.std.specs.Prelude.{not, List, [], ◌∷◌, ◌++◌, map, ℕ, zero, suc, ◌-◌, length, replicate, Option, Some, None, Result, Ok, Err}
use Rattle.octets.specs.Tests.{if}
use Rattle.table.specs.Reading.{scan, count_in}
use Rattle.table.specs.Verdict.{Verdict, no_flaw, flawed, too_long}
use Rattle.table.specs.declared.CheckCause.{CheckCause}
use Rattle.table.specs.declared.CheckCause.TheVariants.{TableShape}
use Rattle.table.specs.declared.Flaw.{Flaw}
use Rattle.records.specs.Entries.{packed, entry_at}
use Rattle.records.specs.Descriptors.{number_of, entry_number_of}

-- the number of the record at o
abbrev pub number_at : List ℕ → ℕ → ℕ
number_at b o = packed (entry_at b o)

-- the numbers of the records at these places, then zeros up to 128
unfoldable pub numbered : List ℕ → List ℕ → List ℕ
numbered b os = map (number_at b) os ++ replicate (128 - length os) 0

-- the whole index: of the records that the scan finds, all or those before the first that is not shaped
abbrev pub index_in : List ℕ → List ℕ
index_in b = numbered b (scan b).offsets

-- how many records the scan finds, if it is whole; else the flaw at the first that is not shaped
abbrev pub scanned : List ℕ → Result ℕ Flaw
scanned b = if (not (scan b).whole) (Err (record { cause = TableShape; place = count_in b })) λ _. Ok (count_in b)

-- Over 8,192 octets are not looked at: no record is counted, and the index stays as it was.
unfoldable pub count_after : List ℕ → ℕ
count_after b = if (too_long b) 0 λ _. count_in b

unfoldable pub index_after : List ℕ → List ℕ → List ℕ
index_after b before = if (too_long b) before λ _. index_in b

-- the first n numbers, each as f has it
unfoldable pub changed : (ℕ → ℕ) → ℕ → List ℕ → List ℕ
changed f zero ws = ws
changed f (suc n) [] = []
changed f (suc n) (w ∷ ws) = f w ∷ changed f n ws

-- the numbers of entries become those of their descriptors, and back
abbrev pub renumbered : ℕ → List ℕ → List ℕ
renumbered = changed number_of

abbrev pub restored : ℕ → List ℕ → List ℕ
restored = changed entry_number_of

-- the index that the check itself goes by, and that `Passed::check` leaves: with the descriptors of the records that are counted
abbrev pub described_after : List ℕ → List ℕ → List ℕ
described_after b before = renumbered (count_after b) (index_after b before)

-- the verdict by one cause, and the record that was found to have it, if one was
abbrev pub unless_found : CheckCause → Option ℕ → Verdict
unless_found c None = no_flaw
unless_found c (Some p) = flawed c p
