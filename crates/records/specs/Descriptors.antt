-- Entries whose kind is known: what an entry describes (FORMATS, "Tables"), for the contracts of the code.
-- Assumes nothing.
use Rattle.std.specs.Prelude.{true, List, ◌≡◌, ℕ, ◌+◌, ◌*◌, ◌/◌, ◌%◌, ◌≤◌, ◌<◌, length, get_or}
use Rattle.table.specs.Syntax.{Record}
use Rattle.table.specs.Octets.{record_shaped}
use Rattle.table.specs.Reading.{table_in, count_in}
use Rattle.kinds.specs.Kinds.{octet_of, place_of, kind_at, kind_of}
use Rattle.records.specs.Entries.{unpacked, Entered}
use Rattle.records.specs.declared.entry.Entry.{Entry}
use Rattle.records.specs.declared.descriptor.Descriptor.{Descriptor}

-- an entry, with the kind that its octet counts as
abbrev pub descriptor_of : Entry → Descriptor
descriptor_of e = record { code = e.code; own = e.own; kind = kind_of e.kind; explicit = e.explicit; simple = e.simple }

-- the entry with the octet of the kind
abbrev pub entry_of : Descriptor → Entry
entry_of d = record { code = d.code; own = d.own; kind = octet_of d.kind; explicit = d.explicit; simple = d.simple }

-- a descriptor as a number: that of the entry, but with the place of the kind where its octet stood
unfoldable pub described : ℕ → Descriptor
described w =
    let e = unpacked w in
    record { code = e.code; own = e.own; kind = kind_at e.kind; explicit = e.explicit; simple = e.simple }

-- the number of the descriptor of an entry, from the entry's number
unfoldable pub number_of : ℕ → ℕ
number_of w = (w / 72057594037927936 * 256 + place_of (kind_of (w / 281474976710656 % 256))) * 281474976710656 + w % 281474976710656

-- and back: the number of the entry, from that of its descriptor
unfoldable pub entry_number_of : ℕ → ℕ
entry_number_of w = (w / 72057594037927936 * 256 + octet_of (kind_at (w / 281474976710656 % 256))) * 281474976710656 + w % 281474976710656

-- the descriptor is of the record
pub record Describes (b : List ℕ) (d : Descriptor) (r : Record) : Type 0 where
  pub entered : Entered b (entry_of d) r

-- the first n numbers describe the records
pub record Listed (b index : List ℕ) (n : ℕ) : Type 0 where
  pub count : n ≡ count_in b
  pub few : n ≤ 128
  pub short : length b ≤ 8192
  pub shaped : (t : ℕ) → t < n → record_shaped (table_in b t) ≡ true
  pub describes : (t : ℕ) → t < n → Describes b (described (get_or index t 0)) (table_in b t)
