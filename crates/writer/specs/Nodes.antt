-- A node by its places in a value's octets v: where it ends, and what it is. Reads are total: what lies behind the last octet counts as 0.
-- Assumes nothing.
use Rattle.std.specs.Prelude.{Bool, true, false, not, List, ◌≡◌, ℕ, ◌+◌, ◌-◌, ◌*◌, ◌/◌, ◌^◌, ◌≤◌, ltb, leb, eqb, length, get_or, take, drop}
use Rattle.octets.specs.Tests.{if}
use Rattle.octets.specs.Lists.{all}
use Rattle.octets.specs.Numbers.{two}
use Rattle.x690.specs.Integer.{integer_of}
use Rattle.dates.specs.declared.TimeKind.{TimeKind}
use Rattle.dates.specs.declared.TimeKind.TheVariants.{Utc, Generalized}
use Rattle.dates.specs.Calendar.{in_range}
use Rattle.dates.specs.Own.{time_at}
use Rattle.table.specs.Reading.{every_at}
use Rattle.coding.specs.Value.{Leaf, boolean, integer, bits, string, null, enumerated, time}
use Rattle.coding.specs.Judging.{Node, a_leaf, a_sequence, a_set, a_sequence_of, a_set_of, a_choice, flags, octets_for, spare_in}

-- e, if there are so many octets; else 0
unfoldable pub fixed_end : List ℕ → ℕ → ℕ
fixed_end v e = if (ltb (length v) e) 0 λ _. e

unfoldable pub boolean_end : List ℕ → ℕ → ℕ
boolean_end v p =
    if (ltb (length v) (p + 1)) 0 λ _.
    if (leb 2 (get_or v p 0)) 0 λ _.
    p + 1

unfoldable pub string_end : List ℕ → ℕ → ℕ
string_end v p =
    if (ltb (length v) (p + 2)) 0 λ _.
    if (ltb (length v) (p + 2 + two v p)) 0 λ _.
    p + 2 + two v p

-- the last octet of n bits that begin at p has its spare bits 0
unfoldable pub clear_at : List ℕ → ℕ → ℕ → Bool
clear_at v p n =
    if (eqb n 0) true λ _.
    eqb (get_or v (p + octets_for n - 1) 0 / 2 ^ spare_in n * 2 ^ spare_in n) (get_or v (p + octets_for n - 1) 0)

unfoldable pub bits_end : List ℕ → ℕ → ℕ
bits_end v p =
    if (ltb (length v) (p + 2)) 0 λ _.
    if (ltb (length v) (p + 2 + octets_for (two v p))) 0 λ _.
    if (not (clear_at v (p + 2) (two v p))) 0 λ _.
    p + 2 + octets_for (two v p)

-- seven octets of a time in range
unfoldable pub time_end : TimeKind → List ℕ → ℕ → ℕ
time_end k v p =
    if (ltb (length v) (p + 7)) 0 λ _.
    if (not (in_range k (time_at v p))) 0 λ _.
    p + 7

unfoldable pub members_end : List ℕ → ℕ → ℕ
members_end v p =
    if (ltb (length v) (p + 1)) 0 λ _.
    if (ltb (length v) (p + 1 + get_or v p 0)) 0 λ _.
    if (not (all (λ b. ltb b 2) (every_at 1 v (p + 1) (get_or v p 0)))) 0 λ _.
    p + 1 + get_or v p 0

-- where the own part at p of a node of kind k ends; 0 if it is not shaped
unfoldable pub own_end : ℕ → List ℕ → ℕ → ℕ
own_end k v p =
    if (eqb k 1) (boolean_end v p) λ _.
    if (eqb k 2) (fixed_end v (p + 8)) λ _.
    if (eqb k 3) (bits_end v p) λ _.
    if (eqb k 4) (string_end v p) λ _.
    if (eqb k 5) p λ _.
    if (eqb k 10) (fixed_end v (p + 2)) λ _.
    if (eqb k 23) (time_end Utc v p) λ _.
    if (eqb k 24) (time_end Generalized v p) λ _.
    if (eqb k 16) (members_end v p) λ _.
    if (eqb k 17) (members_end v p) λ _.
    if (eqb k 48) (fixed_end v (p + 2)) λ _.
    if (eqb k 49) (fixed_end v (p + 2)) λ _.
    if (eqb k 50) (fixed_end v (p + 1)) λ _.
    0

-- where the own part of the node at a place ends; 0 if it is not shaped
unfoldable pub end_at : List ℕ → ℕ → ℕ
end_at v at =
    if (ltb (length v) (at + 3)) 0 λ _.
    if (not (eqb (get_or v at 0) 0x56)) 0 λ _.
    if (not (eqb (get_or v (at + 1) 0) 0x41)) 0 λ _.
    own_end (get_or v (at + 2) 0) v (at + 3)

-- the leaf of kind k whose own part is at p
unfoldable pub leaf_of : ℕ → List ℕ → ℕ → Leaf
leaf_of k v p =
    if (eqb k 1) (boolean (eqb (get_or v p 0) 1)) λ _.
    if (eqb k 2) (integer (integer_of (take 8 (drop p v)))) λ _.
    if (eqb k 3) (bits (spare_in (two v p)) (take (octets_for (two v p)) (drop (p + 2) v))) λ _.
    if (eqb k 4) (string (take (two v p) (drop (p + 2) v))) λ _.
    if (eqb k 5) null λ _.
    if (eqb k 23) (time Utc (time_at v p)) λ _.
    if (eqb k 24) (time Generalized (time_at v p)) λ _.
    enumerated (two v p)

-- the node of kind k whose own part is at p
unfoldable pub node_of : ℕ → List ℕ → ℕ → Node
node_of k v p =
    if (eqb k 16) (a_sequence (flags (every_at 1 v (p + 1) (get_or v p 0)))) λ _.
    if (eqb k 17) (a_set (flags (every_at 1 v (p + 1) (get_or v p 0)))) λ _.
    if (eqb k 48) (a_sequence_of (two v p)) λ _.
    if (eqb k 49) (a_set_of (two v p)) λ _.
    if (eqb k 50) (a_choice (get_or v p 0)) λ _.
    a_leaf (leaf_of k v p)

-- the node at a place
abbrev pub node_at : List ℕ → ℕ → Node
node_at v at = node_of (get_or v (at + 2) 0) v (at + 3)

-- the mark of a node is at a place, and its kind behind it
abbrev pub IsMarked : List ℕ → ℕ → Type 0
IsMarked v at = (at + 3 ≤ length v) × (end_at v at ≡ own_end (get_or v (at + 2) 0) v (at + 3))

-- whether it is
pub record Marked (v : List ℕ) (at : ℕ) (r : Bool) : Type 0 where
  pub yes : r ≡ true → IsMarked v at
  pub no : r ≡ false → end_at v at ≡ 0
