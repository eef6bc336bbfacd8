-- Which identifier octets begin a value of a type, and what is awaited where (FORMATS, "Tables" and "Messages").
-- Assumes nothing.
use Rattle.std.specs.Prelude.{Bool, true, false, ◌&&◌, ◌||◌, List, [], ◌∷◌, map, ℕ, zero, suc, ◌<◌}
use Rattle.std.proofs.Math.Option.{Option, some, none}
use Rattle.octets.specs.Lists.{any, same}
use Rattle.x690.specs.Reading.{Mode, closed, open_ended}
use Rattle.x690.specs.Segments.{in_either, in_parts}
use Rattle.table.specs.Syntax.{Body, Plain, Sequence, Set, SequenceOf, SetOf, Choice, Table, Member}
use Rattle.coding.specs.Content.{segmented}
use Rattle.coding.specs.Tags.{own_tag, explicit}
use Rattle.coding.specs.Value.{Value}

-- the first tags as identifier octets i, the constructed bit included, which of a string is either: the outermost one, or what begins an alternative of a CHOICE without tags, as f says
unfoldable pub begins_body : (ℕ → Bool) → List ℕ → List ℕ → Body → Bool
begins_body f i o (Plain k) = same i o || (in_either (segmented k) && same i (in_parts o))
begins_body f i o (Sequence ms) = same i o
begins_body f i o (Set ms) = same i o
begins_body f i o (SequenceOf t) = same i o
begins_body f i o (SetOf t) = same i o
begins_body f i o (Choice ts) = any f ts

unfoldable pub begins_item : (ℕ → Bool) → List ℕ → List (List ℕ) → List ℕ → Body → Bool
begins_item f i [] o b = begins_body f i o b
begins_item f i (e ∷ es) o b = same i e

-- the identifier octets i begin values of the type t, through fewer than k CHOICEs without tags
unfoldable pub begins_in : Table → ℕ → ℕ → List ℕ → Bool
begins_in T zero t i = false
begins_in T (suc k) t i = begins_item (λ a. begins_in T k a i) i (explicit (T t)) (own_tag (T t)) (T t).body

-- the identifier octets i begin values of the type t; of 128 records at most 127 are CHOICEs above an item
unfoldable pub begins : Table → ℕ → List ℕ → Bool
begins T t i = begins_in T 129 t i

-- the types of the members
abbrev pub types : List Member → List ℕ
types ms = map (λ m. m.type) ms

abbrev pub further : Bool → List ℕ → List ℕ
further true ts = ts
further false ts = []

-- in a SEQUENCE: of the members that are left, the optional ones in front and the first mandatory one
unfoldable pub awaited : List Member → List ℕ
awaited [] = []
awaited (m ∷ ms) = m.type ∷ further m.optional (awaited ms)

-- in a SET: the members that have not come
unfoldable pub not_yet_read : List Member → List (Option Value) → List ℕ
not_yet_read [] os = []
not_yet_read (m ∷ ms) [] = m.type ∷ not_yet_read ms []
not_yet_read (m ∷ ms) (none ∷ os) = m.type ∷ not_yet_read ms os
not_yet_read (m ∷ ms) (some v ∷ os) = not_yet_read ms os

-- anything is awaited
unfoldable pub anything : List ℕ → Bool
anything [] = false
anything (t ∷ ts) = true

-- one slot to each member
pub data Slotted : List Member → List (Option Value) → Type 0 where
  no_slot : Slotted [] []
  a_slot : {m : Member} {ms : List Member} {o : Option Value} {os : List (Option Value)} → Slotted ms os → Slotted (m ∷ ms) (o ∷ os)

-- the contents go on: an octet is left, and in an indefinite item it is not 00
pub data GoesOn : Mode → List ℕ → Type 0 where
  an_octet : {b : ℕ} {s : List ℕ} → GoesOn closed (b ∷ s)
  no_end : {b : ℕ} {s : List ℕ} → 0 < b → GoesOn open_ended (b ∷ s)
