-- The record that an entry of a table's index is of, as the entry and the table's octets b say it (FORMATS, "Tables").
-- Assumes nothing.
use Rattle.std.specs.Prelude.{true, List, ◌≡◌, ℕ, ◌-◌, ◌*◌, ◌<◌}
use Rattle.table.specs.Syntax.{Tag, Record}
use Rattle.table.specs.Octets.{record_shaped}
use Rattle.table.specs.Reading.{tags_at, body_at}
use Rattle.kinds.specs.Kinds.{octet_of}
use Rattle.records.specs.Entries.{tag_count, tag_place, Entered}
use Rattle.records.specs.Descriptors.{entry_of}
use Rattle.records.specs.declared.descriptor.Descriptor.{Descriptor}

-- its tags from the j-th on
abbrev pub tags_from : List ℕ → Descriptor → ℕ → List Tag
tags_from b e j = tags_at b (tag_place (entry_of e) j) (tag_count (entry_of e) - j)

abbrev pub record_in : List ℕ → Descriptor → Record
record_in b e = record { tags = tags_at b (e.own - 3 * tag_count (entry_of e)) (tag_count (entry_of e)); body = body_at b (octet_of e.kind) e.own }

-- the entry is of that record, which is shaped
pub record Known (b : List ℕ) (e : Descriptor) : Type 0 where
  pub entered : Entered b (entry_of e) (record_in b e)
  pub shaped : record_shaped (record_in b e) ≡ true

-- it has one tag, whose identifier and the length of n octets take an octet each
pub record Short (e : Descriptor) (n : ℕ) : Type 0 where
  pub one : e.explicit ≡ 0
  pub low : e.code < 256
  pub little : n < 128
