-- The tags of a record, and the identifier octets that they give (FORMATS, "Tables").
-- Assumes nothing.
use Rattle.std.specs.Prelude.{Bool, true, List, [], ◌∷◌, map, ℕ}
use Rattle.x690.specs.Identifier.{identifier}
use Rattle.table.specs.Syntax.{Tag, Body, Plain, Sequence, Set, SequenceOf, SetOf, Choice, Record, universal, constructed}

unfoldable pub identifier_of : Bool → Tag → List ℕ
identifier_of b g = identifier g.class b g.number

-- the last tag stands in place of the kind's own UNIVERSAL one; with no tag it is that one
unfoldable pub last : Body → List Tag → Tag
last b [] = record { class = 0; number = universal b }
last b (g ∷ []) = g
last b (g ∷ h ∷ gs) = last b (h ∷ gs)

-- the tags in front of the last one are explicit
unfoldable pub before : List Tag → List Tag
before [] = []
before (g ∷ []) = []
before (g ∷ h ∷ gs) = g ∷ before (h ∷ gs)

-- a CHOICE has no tag of its own to replace, so all of its tags are explicit
unfoldable pub explicit_tags : Body → List Tag → List Tag
explicit_tags (Plain k) gs = before gs
explicit_tags (Sequence ms) gs = before gs
explicit_tags (Set ms) gs = before gs
explicit_tags (SequenceOf t) gs = before gs
explicit_tags (SetOf t) gs = before gs
explicit_tags (Choice ts) gs = gs

-- the identifier octets of the item itself; a CHOICE has no item of its own
unfoldable pub own_tag : Record → List ℕ
own_tag r = identifier_of (constructed r.body) (last r.body r.tags)

-- X.690, 8.14: the item of an explicit tag is constructed
unfoldable pub explicit : Record → List (List ℕ)
explicit r = map (identifier_of true) (explicit_tags r.body r.tags)
