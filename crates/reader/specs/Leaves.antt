-- The leaf that simple contents carry, by the number of the kind (FORMATS, "Values" and "Times"; X.690, 8.2 to 8.8).
-- Assumes nothing.
use Rattle.std.specs.Prelude.{Bool, true, false, not, List, [], ◌≡◌, ℕ, ◌+◌, ◌%◌, ◌≤◌, ◌<◌, eqb, ltb, pos, length, get_or, drop}
use Rattle.std.proofs.Math.Option.{Option, some, none}
use Rattle.std.proofs.lemmas.List.Edits.{sets}
use Rattle.x690.specs.declared.ReadingCause.{ReadingCause}
use Rattle.x690.specs.declared.ReadingCause.TheVariants.{Forbidden, Trailing}
use Rattle.octets.specs.Answer.{Answer, got, refused, then, if, behind}
use Rattle.x690.specs.Integer.{integer_of}
use Rattle.x690.specs.BitString.{unused, masked}
use Rattle.x690.specs.Time.{time_of, is_time}
use Rattle.x690.specs.Reading.{Mode}
use Rattle.x690.specs.Segments.{Kind, universal, deepest, read_all, read_segment}
use Rattle.ber.specs.Told.{mode}
use Rattle.dates.specs.declared.TimeKind.{TimeKind}
use Rattle.dates.specs.declared.TimeKind.TheVariants.{Utc, Generalized}
use Rattle.table.specs.Syntax.{Simple, Body, Plain, Sequence, Set, SequenceOf, SetOf, Choice}
use Rattle.coding.specs.Value.{Leaf, boolean, integer, bits, string, null, enumerated, time, time_number, leaf_octets}
use Rattle.coding.specs.Content.{segmented}
use Rattle.coding.specs.Reading.{natural, decode}
use Rattle.reader.specs.declared.node.Placed.{Placed}

unfoldable pub leaf_of : ℕ → List ℕ → Leaf
leaf_of k c =
    if (eqb k 1) (boolean (not (eqb (get_or c 0 0) 0))) λ _.
    if (eqb k 2) (integer (integer_of c)) λ _.
    if (eqb k 3) (bits (get_or c 0 0) (masked (get_or c 0 0) (drop 1 c))) λ _.
    if (eqb k 4) (string c) λ _.
    if (eqb k 5) null λ _.
    if (eqb k 23) (time Utc (time_of Utc c)) λ _.
    if (eqb k 24) (time Generalized (time_of Generalized c)) λ _.
    enumerated (natural (integer_of c))

-- the leading octet of a constructed item: bit 6 is 1
unfoldable pub is_in_segments : ℕ → Bool
is_in_segments lead = ltb 31 (lead % 64)

-- what the segments of a string join to
unfoldable pub read_segments : Option Kind → Mode → List ℕ → Answer ReadingCause (List ℕ)
read_segments none mode c = refused Trailing (length c)
read_segments (some k) mode c = then (read_all k (read_segment k deepest) mode c) λ g u. got g.0 u

-- The leaf that the contents c of a simple kind carry: by their segments, if `parts`; else by themselves, and then no 00 00 closes them (23).
-- l octets are left where the item begins, and j behind c.
unfoldable pub read_leaf : Simple → Bool → Bool → ℕ → ℕ → List ℕ → Answer ReadingCause Leaf
read_leaf q true z l j c = then (behind j (read_segments (segmented q) (mode z) c)) λ d u. decode q l d u
read_leaf q false true l j c = refused Forbidden l
read_leaf q false false l j c = decode q l c []

unfoldable pub read_leaf_in : Body → Bool → Bool → ℕ → ℕ → List ℕ → Answer ReadingCause Leaf
read_leaf_in (Plain q) parts z l j c = read_leaf q parts z l j c
read_leaf_in (Sequence ms) parts z l j c = refused Trailing (length c)
read_leaf_in (Set ms) parts z l j c = refused Trailing (length c)
read_leaf_in (SequenceOf t) parts z l j c = refused Trailing (length c)
read_leaf_in (SetOf t) parts z l j c = refused Trailing (length c)
read_leaf_in (Choice ts) parts z l j c = refused Trailing (length c)

abbrev pub leaf_size : Leaf → ℕ
leaf_size x = length (leaf_octets x)

-- c carries the contents d, behind which u is left: d is c itself, or what its segments join to
pub data Carried (kind : ℕ) (c : List ℕ) : Bool → List ℕ → List ℕ → Type 0 where
  by_itself : Carried kind c false c []
  by_segments : {d u : List ℕ} (k : Kind) (z : Bool) (b : ℕ) → universal k ≡ kind → read_all k (read_segment k deepest) (mode z) c ≡ got (d, b) u → Carried kind c true d u

-- that they are right for it, as far as their octets need it
pub data Lawful (k : ℕ) (c : List ℕ) : Type 0 where
  one_octet : k ≡ 1 → length c ≡ 1 → Lawful k c
  one_to_eight : k ≡ 2 → 1 ≤ length c → length c ≤ 8 → Lawful k c
  some_unused : k ≡ 3 → 1 ≤ length c → unused (get_or c 0 0) (drop 1 c) ≡ true → Lawful k c
  any_octets : k ≡ 4 → Lawful k c
  no_octet : k ≡ 5 → length c ≡ 0 → Lawful k c
  small_number : k ≡ 10 → 1 ≤ length c → length c ≤ 8 → (n : ℕ) → integer_of c ≡ pos n → n < 65536 → Lawful k c
  a_time : (q : TimeKind) → k ≡ time_number q → is_time q c ≡ true → Lawful k c

-- what placing them requires: they are right, and the value has room
pub record ToPlaceLeaf (kind : ℕ) (c : List ℕ) (parts : Bool) (room to : ℕ) : Type 0 where
  pub contents : List ℕ
  pub rest : List ℕ
  pub carried : Carried kind c parts contents rest
  pub lawful : Lawful kind contents
  pub short : length c ≤ 8192
  pub fits : to + length (leaf_octets (leaf_of kind contents)) ≤ room

-- the value of the contents d stands at `to`, and u is left in c
pub record LeafPlaced (kind : ℕ) (d u c first : List ℕ) (to : ℕ) (buf : List ℕ) (x : Placed) : Type 0 where
  pub next : x.next ≡ to + length (leaf_octets (leaf_of kind d))
  pub buffer : buf ≡ sets first to (leaf_octets (leaf_of kind d))
  pub within : x.end ≤ length c
  pub left : u ≡ drop x.end c
