-- What stands in a node that an entry awaits, as the code finds it: how many values at most, of which types, and where the first begins
-- (FORMATS, "Values"). The node's own part is at p. A message is as a node without an own part, of kind 51, in which one value stands.
-- Assumes nothing.
use Rattle.std.specs.Prelude.{not, ◌||◌, List, [], ◌∷◌, ◌≡◌, ℕ, zero, suc, ◌+◌, ◌*◌, ◌<◌, ◌≤◌, ltb, eqb, length, get_or}
use Rattle.octets.specs.Tests.{if}
use Rattle.octets.specs.Numbers.{two}
use Rattle.table.specs.Reading.{count_in}
use Rattle.kinds.specs.Kinds.{octet_of}
use Rattle.records.specs.Entries.{span_of}
use Rattle.records.specs.declared.descriptor.Descriptor.{Descriptor}
use Rattle.records.specs.declared.entry.Span.{Span}

-- where the first value begins
unfoldable pub start_at : Descriptor → List ℕ → ℕ → ℕ
start_at e v p =
    if (eqb (octet_of e.kind) 51) p λ _.
    if (eqb (octet_of e.kind) 16 || eqb (octet_of e.kind) 17) (p + 1 + get_or v p 0) λ _.
    if (eqb (octet_of e.kind) 50) (p + 1) λ _.
    p + 2

-- how many there are, missing members counted
unfoldable pub count_at : Descriptor → List ℕ → ℕ → ℕ
count_at e v p =
    if (eqb (octet_of e.kind) 16 || eqb (octet_of e.kind) 17) (get_or v p 0) λ _.
    if (eqb (octet_of e.kind) 50 || eqb (octet_of e.kind) 51) 1 λ _.
    two v p

-- the parts of the entry's record, and the place of the j-th
abbrev pub parts_of : List ℕ → Descriptor → Span
parts_of b e = span_of b (octet_of e.kind) e.own

abbrev pub place_of : Span → ℕ → ℕ
place_of s j = s.first + s.step * j

-- which part the i-th value is of
unfoldable pub part_of : Descriptor → List ℕ → ℕ → ℕ → ℕ
part_of e v p i =
    if (eqb (octet_of e.kind) 16 || eqb (octet_of e.kind) 17) i λ _.
    if (eqb (octet_of e.kind) 50) (get_or v p 0) λ _.
    0

-- the type of the i-th; 256 for a member that is missing
unfoldable pub below_at : List ℕ → Descriptor → List ℕ → ℕ → ℕ → ℕ
below_at b e v p i =
    if (eqb (octet_of e.kind) 16 || eqb (octet_of e.kind) 17) (
    if (not (eqb (get_or v (p + 1 + i) 0) 1)) 256 λ _.
    get_or b (place_of (parts_of b e) (part_of e v p i)) 0
    ) λ _.
    if (eqb (octet_of e.kind) 51) e.own λ _.
    get_or b (place_of (parts_of b e) (part_of e v p i)) 0

-- the types of those that are there, from the i-th on, k of them
unfoldable pub row_from : List ℕ → Descriptor → List ℕ → ℕ → ℕ → ℕ → List ℕ
row_from b e v p i zero = []
row_from b e v p i (suc k) = if (ltb (below_at b e v p i) 256) (below_at b e v p i ∷ row_from b e v p (i + 1) k) λ _. row_from b e v p (i + 1) k

-- all of them
abbrev pub row_in : List ℕ → Descriptor → List ℕ → ℕ → List ℕ
row_in b e v p = row_from b e v p 0 (count_at e v p)

-- the own part lies within v, the parts of the record within b, and each type that is there is a record's number
pub record Standing (b v : List ℕ) (e : Descriptor) (p : ℕ) : Type 0 where
  pub starts : start_at e v p ≤ length v
  pub part : (i : ℕ) → i < count_at e v p → (octet_of e.kind ≡ 51 → ⊥) → place_of (parts_of b e) (part_of e v p i) < length b
  pub types : (i : ℕ) → i < count_at e v p → below_at b e v p i < 256 → below_at b e v p i < count_in b
