-- What stands in the buffer while the items of a message that was accepted are placed (FORMATS, "Values" and "Octets and levels").
-- Assumes nothing.
use Rattle.std.specs.Prelude.{Bool, true, false, ◌||◌, List, [], ◌∷◌, ◌++◌, map, ◌≡◌, ℕ, zero, suc, ◌+◌, ◌-◌, ◌%◌, ◌≤◌, eqb, length, drop, set, replicate}
use Rattle.std.proofs.Math.Option.{Option, some, none}
use Rattle.std.proofs.lemmas.List.Edits.{sets}
use Rattle.octets.specs.Answer.{got, if}
use Rattle.octets.specs.Numbers.{octets_of}
use Rattle.table.specs.Syntax.{Member, Plain, Sequence, Set, SequenceOf, SetOf, Choice, Table}
use Rattle.coding.specs.Value.{Value, octets, slots, presence}
use Rattle.coding.specs.Reading.{nothing, read_value}
use Rattle.ber.specs.Told.{mode}
use Rattle.reader.specs.Items.{Holder, inside, message, Hand, read_items, filled, blank}

-- the octets of the values in hand, one after another
unfoldable pub bodies : Hand → List ℕ
bodies [] = []
bodies (x ∷ hand) = octets x.1 ++ bodies hand

-- which of the first j members are in hand
unfoldable pub flags : Hand → ℕ → List ℕ
flags hand j = presence (slots (filled hand (replicate j none)))

-- the kind of the node; a message has none
unfoldable pub kind_of : Holder → ℕ
kind_of (inside (Plain k)) = 0
kind_of (inside (Sequence ms)) = 16
kind_of (inside (Set ms)) = 17
kind_of (inside (SequenceOf t)) = 48
kind_of (inside (SetOf t)) = 49
kind_of (inside (Choice ts)) = 50
kind_of (message t) = 51

-- By the number k of a kind. Whether what it holds is members:
abbrev pub has_members : ℕ → Bool
has_members k = eqb k 16 || eqb k 17

abbrev pub is_list : ℕ → Bool
is_list k = eqb k 48 || eqb k 49

-- or one item
abbrev pub holds_one : ℕ → Bool
holds_one k = eqb k 50 || eqb k 51

-- behind the part at a place: the next member, or the same part
unfoldable pub onward : ℕ → ℕ → ℕ
onward k place = if (has_members k) (suc place) λ _. place

-- how many octets the node has before those in it, with n members
unfoldable pub node_of : ℕ → ℕ → ℕ
node_of k n =
    if (has_members k) (4 + n) λ _.
    if (is_list k) 5 λ _.
    if (eqb k 50) 4 λ _.
    0

-- the mark, the kind and, of members, their count
unfoldable pub opening_of : ℕ → ℕ → List ℕ
opening_of k n =
    if (eqb k 51) [] λ _.
    if (has_members k) (86 ∷ 65 ∷ k ∷ n ∷ []) λ _.
    86 ∷ 65 ∷ k ∷ []

-- the buffer once the node at `to` says that a part has come
unfoldable pub noted_in : ℕ → ℕ → List ℕ → ℕ → List ℕ
noted_in k place buf to =
    if (has_members k) (set buf (to + 4 + place) 1) λ _.
    if (eqb k 50) (set buf (to + 3) place) λ _.
    buf

-- that the members from the j-th on up to the i-th have not
abbrev pub absent_in : ℕ → ℕ → List ℕ → ℕ → List ℕ
absent_in j i buf to = sets buf (to + 4 + j) (replicate (i - j) 0)

-- and that contents are over: of n members those from the j-th on have not come, or there are `count` elements
unfoldable pub finished_in : ℕ → ℕ → ℕ → ℕ → List ℕ → ℕ → List ℕ
finished_in k j n count buf to =
    if (has_members k) (absent_in j n buf to) λ _.
    sets buf (to + 3) (octets_of count)

-- what the node says while contents go on: of members also which of the first j came, of a CHOICE which alternative
unfoldable pub said : Holder → ℕ → Hand → List ℕ
said (inside (Plain k)) j hand = []
said (inside (Sequence ms)) j hand = 86 ∷ 65 ∷ 16 ∷ length ms ∷ flags hand j
said (inside (Set ms)) j hand = 86 ∷ 65 ∷ 17 ∷ length ms ∷ flags hand j
said (inside (SequenceOf t)) j hand = 86 ∷ 65 ∷ 48 ∷ []
said (inside (SetOf t)) j hand = 86 ∷ 65 ∷ 49 ∷ []
said (inside (Choice ts)) j hand = 86 ∷ 65 ∷ 50 ∷ map (λ x. x.0) hand
said (message t) j hand = []

-- the nodes of CHOICEs without tags; of each the way has 16 for each unit of its number, and the alternative that is taken
unfoldable pub way_octets : List ℕ → List ℕ
way_octets [] = []
way_octets (a ∷ way) = 86 ∷ 65 ∷ 50 ∷ a % 16 ∷ way_octets way

-- behind contents that are over at a place; 00 00 closes them if b
abbrev pub end_at : Bool → ℕ → ℕ
end_at true at = at + 2
end_at false at = at

-- 0 is noted for each member that is missing, and one more than where it begins in m for each that is there
pub data Noted (T : Table) (n : ℕ) (m : List ℕ) : List Member → List ℕ → List (Option Value) → Type 0 where
  over : {ns : List ℕ} → Noted T n m [] ns []
  free : {k : Member} {ms : List Member} {ns : List ℕ} {os : List (Option Value)} → Noted T n m ms ns os → Noted T n m (k ∷ ms) (zero ∷ ns) (none ∷ os)
  came : {k : Member} {ms : List Member} {ns : List ℕ} {os : List (Option Value)} {v : Value} {w : List ℕ} (p : ℕ)
      → p ≤ length m → read_value T n k.type (drop p m) ≡ got v w → Noted T n m ms ns os → Noted T n m (k ∷ ms) (suc p ∷ ns) (some v ∷ os)

-- if the items of a SET are accepted, with however many levels, the notes say where its members begin, and e is where they end
abbrev pub Spotted : Table → List Member → Bool → List ℕ → List ℕ → ℕ → Type 0
Spotted T ms b m ns e =
    (n : ℕ) (all : Hand) (last : List ℕ) → read_items T (read_value T n) (inside (Set ms)) (suc (length m)) 0 blank [] (mode b) m ≡ got all last
    → (e ≤ length m) × (last ≡ drop e m) × Noted T n m ms ns (filled all (nothing ms))
