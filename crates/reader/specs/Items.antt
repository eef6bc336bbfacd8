-- What stands in contents, item by item: which parts of a record may come next, how items are read one after another, and the value that
-- they make (X.690, 8.9 to 8.13; FORMATS, "Messages").
-- Assumes nothing.
use Rattle.std.specs.Prelude.{Bool, true, false, not, List, [], ◌∷◌, ◌++◌, map, ℕ, zero, suc, ◌+◌, eqb, length, get_or, drop, set as set_at, replicate}
use Rattle.std.proofs.Math.Option.{Option, some, none}
use Rattle.x690.specs.declared.ReadingCause.{ReadingCause}
use Rattle.x690.specs.declared.ReadingCause.TheVariants.{NotAwaited, Trailing}
use Rattle.octets.specs.Answer.{Answer, got, refused, then, if}
use Rattle.octets.specs.Lists.{any}
use Rattle.x690.specs.Reading.{Mode, at_end}
use Rattle.table.specs.Syntax.{Member, Body, Plain, Sequence, Set, SequenceOf, SetOf, Choice, Table}
use Rattle.coding.specs.Value.{Value, leaf, null, sequence, set, sequence_of, set_of, choice, slots, bag, octets}
use Rattle.coding.specs.Reading.{begun, not_awaited, nothing}

-- what items stand in: the contents of a record with this body, or a message of type t
pub data Holder : Type 0 where
  inside : Body → Holder
  message : ℕ → Holder

-- how they come: in the order of the parts, each part at most once in any order, one part again and again, or one item of any part
pub data Manner : Type 0 where
  in_turn each_once repeated single : Manner

unfoldable pub manner : Holder → Manner
manner (inside (Plain k)) = single
manner (inside (Sequence ms)) = in_turn
manner (inside (Set ms)) = each_once
manner (inside (SequenceOf t)) = repeated
manner (inside (SetOf t)) = repeated
manner (inside (Choice ts)) = single
manner (message t) = single

-- parts that need not come
abbrev pub optionals : List ℕ → List Member
optionals ts = map (λ t. record { type = t; optional = true }) ts

-- the members; the one type of elements; the alternatives; the message's type
unfoldable pub parts_of : Holder → List Member
parts_of (inside (Plain k)) = []
parts_of (inside (Sequence ms)) = ms
parts_of (inside (Set ms)) = ms
parts_of (inside (SequenceOf t)) = optionals (t ∷ [])
parts_of (inside (SetOf t)) = optionals (t ∷ [])
parts_of (inside (Choice ts)) = optionals ts
parts_of (message t) = optionals (t ∷ [])

-- a part with its place among the parts
abbrev pub Placed : Type 0
Placed = ℕ × Member

-- of parts, the first at place k, those that have not come: 0 is noted at the place
unfoldable pub pending : List ℕ → ℕ → List Member → List Placed
pending came k [] = []
pending came k (m ∷ ms) =
    if (eqb (get_or came k 0) 0) ((k, m) ∷ pending came (suc k) ms) λ _.
    pending came (suc k) ms

-- up to and with the first that must come
unfoldable pub up_to_mandatory : List Placed → List Placed
up_to_mandatory [] = []
up_to_mandatory (x ∷ l) = x ∷ if x.1.optional (up_to_mandatory l) λ _. []

unfoldable pub within : Manner → List Placed → List Placed
within in_turn l = up_to_mandatory l
within each_once l = l
within repeated l = l
within single l = l

-- the parts from the j-th on that have not come
abbrev pub left : Holder → ℕ → List ℕ → List Placed
left h j came = pending came j (drop j (parts_of h))

-- those of which the next item may be one
abbrev pub awaits : Holder → ℕ → List ℕ → List Placed
awaits h j came = within (manner h) (left h j came)

-- there is one at all
unfoldable pub some_of : {A : Type 0} → List A → Bool
some_of [] = false
some_of (x ∷ l) = true

abbrev pub remains : Holder → ℕ → List ℕ → Bool
remains h j came = some_of (left h j came)

-- one of those that are left must come
abbrev pub lacks : Holder → ℕ → List ℕ → Bool
lacks h j came = any (λ x. not x.1.optional) (left h j came)

-- from which part on others are left, if j parts were passed
unfoldable pub since : Manner → ℕ → ℕ
since in_turn j = j
since each_once j = 0
since repeated j = 0
since single j = 0

-- after an item of the part at place p: from which part on others are left, and what is noted
unfoldable pub following : Manner → ℕ → ℕ
following in_turn p = suc p
following each_once p = 0
following repeated p = 0
following single p = 0

unfoldable pub noted : Manner → List ℕ → ℕ → List ℕ
noted in_turn came p = came
noted each_once came p = set_at came p 1
noted repeated came p = came
noted single came p = came

unfoldable pub is_single : Manner → Bool
is_single in_turn = false
is_single each_once = false
is_single repeated = false
is_single single = true

-- the first that passes
unfoldable pub first : {A : Type 0} → (A → Bool) → List A → Option A
first f [] = none
first f (x ∷ l) = if (f x) (some x) λ _. first f l

-- values in the order of arrival, each with the place of its part
abbrev pub Hand : Type 0
Hand = List (ℕ × Value)

-- the part that the next item begins
abbrev pub next : Table → Holder → ℕ → List ℕ → List ℕ → Option Placed
next T h j came s = first (λ x. begun T x.1.type s) (awaits h j came)

module _ (T : Table) (r : ℕ → List ℕ → Answer ReadingCause Value) where
  -- an item of the part that it begins
  unfoldable pub read_part : Option Placed → List ℕ → Answer ReadingCause (ℕ × Value)
  read_part none s = not_awaited s
  read_part (some x) s = then (r x.1.type s) λ v s₁. got (x.0, v) s₁

  module _ (h : Holder) where
    -- The items after those in hand. They go on to the end of the contents, where nothing must be lacking (24); where no part is left an
    -- item is 26. A CHOICE and a message have one item and no end.
    unfoldable pub read_items : ℕ → ℕ → List ℕ → Hand → Mode → List ℕ → Answer ReadingCause Hand
    read_items zero j came hand mode s = refused Trailing (length s)
    read_items (suc k) j came hand mode s =
        if (is_single (manner h)) (then (read_part (next T h j came s) s) λ x s₁. got (hand ++ (x ∷ [])) s₁) λ _.
        at_end mode s (λ u. if (lacks h j came) (refused NotAwaited (length s)) λ _. got hand u) λ _.
        if (not (remains h j came)) (refused Trailing (length s)) λ _.
        then (read_part (next T h j came s) s) λ x s₁.
        read_items k (following (manner h) x.0) (noted (manner h) came x.0) (hand ++ (x ∷ [])) mode s₁

-- members by their places
unfoldable pub filled : Hand → List (Option Value) → List (Option Value)
filled [] os = os
filled (x ∷ hand) os = filled hand (set_at os x.0 (some x.1))

abbrev pub values : Hand → List Value
values hand = map (λ x. x.1) hand

-- the one in hand
unfoldable pub only : Hand → ℕ × Value
only [] = (0, leaf null)
only (x ∷ hand) = x

-- the value of what is in hand
unfoldable pub assemble : Holder → Hand → Value
assemble (inside (Plain k)) hand = leaf null
assemble (inside (Sequence ms)) hand = sequence (slots (filled hand (nothing ms)))
assemble (inside (Set ms)) hand = set (slots (filled hand (nothing ms)))
assemble (inside (SequenceOf t)) hand = sequence_of (bag (values hand))
assemble (inside (SetOf t)) hand = set_of (bag (values hand))
assemble (inside (Choice ts)) hand = choice (only hand).0 (only hand).1
assemble (message t) hand = (only hand).1

-- how many octets its node has, but for the nodes below
unfoldable pub node_size : Holder → ℕ
node_size (inside (Plain k)) = 3
node_size (inside (Sequence ms)) = 4 + length ms
node_size (inside (Set ms)) = 4 + length ms
node_size (inside (SequenceOf t)) = 5
node_size (inside (SetOf t)) = 5
node_size (inside (Choice ts)) = 4
node_size (message t) = 0

-- how many octets the nodes of those in hand have
unfoldable pub sizes_of : Hand → ℕ
sizes_of [] = 0
sizes_of (x ∷ hand) = length (octets x.1) + sizes_of hand

-- nothing has come; no record has more than 16 parts
abbrev pub blank : List ℕ
blank = replicate 16 0

-- all the items, and their value
unfoldable pub read_held : Table → (ℕ → List ℕ → Answer ReadingCause Value) → Holder → Mode → List ℕ → Answer ReadingCause Value
read_held T r h mode s = then (read_items T r h (suc (length s)) 0 blank [] mode s) λ hand u. got (assemble h hand) u
