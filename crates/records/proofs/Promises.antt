-- What the crates above may use of entries beside the contracts of the functions. No other law of this crate is for them.
-- Assumes nothing.
use mathlib.Core.Bool.{not, ◌||◌}
use mathlib.Core.List.{List}
use mathlib.Core.Logic.{◌⊎◌}
use mathlib.Core.Path.{◌≡◌}
use Prim.Native.Nat.{ℕ, ◌+◌, ◌*◌, ◌<◌}
use lib.Dec.{ltb, eqb}
use lib.ListN.{length, get_or}
use Rattle.octets.specs.Numbers.{two}
use Rattle.table.specs.Syntax.{Tag, Member, Enumerated, Plain, Sequence, Set, SequenceOf, SetOf, Choice, Record, references, is_choice, constructed}
use Rattle.table.specs.Octets.{kind}
use Rattle.table.specs.Reading.{every_at}
use Rattle.kinds.specs.Kinds.{octet_of, kind_of}
use Rattle.records.specs.Entries.{unpacked, tag_count, tag_place, span_of, Entered, WithMembers, WithAlternatives, WithElements, WithNumbers}
use Rattle.records.specs.Descriptors.{descriptor_of, described, number_of, entry_number_of, Describes}
use Rattle.records.specs.declared.entry.Entry.{Entry}
use Rattle.records.proofs.Entries as entries
use Rattle.records.proofs.Descriptors as descriptors
use Rattle.records.proofs.Packing as packing

-- An entry and its record: the kind by which the body goes, and its parts, which lie within the octets.

module _ {b : List ℕ} {e : Entry} {r : Record} (x : Entered b e r) where
  pub entered_kind : e.kind ≡ kind r.body
  entered_kind = entries.entered_kind x

  pub entered_known : octet_of (kind_of e.kind) ≡ e.kind
  entered_known = entries.entered_known x

  pub kind_choice : eqb e.kind 50 ≡ is_choice r.body
  kind_choice = entries.kind_choice x

  pub entered_span : let s = span_of b e.kind e.own in every_at s.step b s.first s.count ≡ references r.body
  entered_span = entries.entered_span x

  pub part_inside : let s = span_of b e.kind e.own in (j : ℕ) → j < s.count → s.first + s.step * j < length b
  part_inside = entries.part_inside x

  pub entered_members : (ms : List Member) → (r.body ≡ Sequence ms) ⊎ (r.body ≡ Set ms) → WithMembers b e ms
  entered_members = entries.entered_members x

  pub entered_choice : (ts : List ℕ) → r.body ≡ Choice ts → WithAlternatives b e ts
  entered_choice = entries.entered_choice x

  pub entered_list : (t : ℕ) → (r.body ≡ SequenceOf t) ⊎ (r.body ≡ SetOf t) → WithElements b e t
  entered_list = entries.entered_list x

  pub entered_enumerated : (ns : List ℕ) → r.body ≡ Plain (Enumerated ns) → WithNumbers b e ns
  entered_enumerated = entries.entered_enumerated x

  -- Its tags: how many there are, each at its place, and which are constructed.

  pub entered_tags : tag_count e ≡ length r.tags
  entered_tags = entries.entered_tags x

  pub entered_tag : (d : Tag) (j : ℕ) → j < length r.tags
      → record { class = get_or b (tag_place e j) 0; number = two b (tag_place e j + 1) } ≡ get_or r.tags j d
  entered_tag = entries.entered_tag x

  pub entered_bit : (j : ℕ) → j < length r.tags
      → (ltb j e.explicit || not e.simple) ≡ (ltb (j + 1) (length r.tags) || constructed r.body)
  entered_bit = entries.entered_bit x

-- The descriptor of an entry is of the entry's record, and so is that of its number.

pub describes : {b : List ℕ} (w : ℕ) {r : Record} → Entered b (unpacked w) r → Describes b (descriptor_of (unpacked w)) r
describes = descriptors.describes

pub first_described : (w : ℕ) → (unpacked w).code ≡ (described w).code
first_described = descriptors.first_described

pub renumbered : (w : ℕ) → described (number_of w) ≡ descriptor_of (unpacked w)
renumbered = packing.renumbered

pub number_back : (w : ℕ) → octet_of (kind_of (unpacked w).kind) ≡ (unpacked w).kind → entry_number_of (number_of w) ≡ w
number_back = packing.number_back
