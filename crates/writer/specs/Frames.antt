-- The items around the contents of a value, by the tags of its record: their length, and the octets in front of the contents.
-- Assumes nothing.
use Rattle.std.specs.Prelude.{Bool, true, false, ◌||◌, List, [], ◌∷◌, ◌++◌, ℕ, ◌+◌, min, length}
use Rattle.x690.specs.Identifier.{identifier}
use Rattle.x690.specs.Length.{length_octets}
use Rattle.table.specs.Syntax.{Tag}

-- a length that is over 8,192 counts as 8,193
abbrev pub cap : ℕ → ℕ
cap n = min 8193 n

-- how many octets an identifier and a length have
abbrev pub identifier_size : ℕ → ℕ
identifier_size n = length (identifier 0 true n)

abbrev pub length_size : ℕ → ℕ
length_size n = length (length_octets n)

-- the length of the items with these tags around contents of k octets
unfoldable pub framed : List Tag → ℕ → ℕ
framed [] k = k
framed (g ∷ gs) k = cap (identifier_size g.number + length_size (framed gs k) + framed gs k)

unfoldable pub some : {A : Type 0} → List A → Bool
some [] = false
some (x ∷ l) = true

-- their identifier and length octets; the innermost is constructed as c says, all before it are
unfoldable pub heads : Bool → List Tag → ℕ → List ℕ
heads c [] k = []
heads c (g ∷ gs) k = identifier g.class (some gs || c) g.number ++ (length_octets (framed gs k) ++ heads c gs k)
