-- The numbers of a table's tags and of its ENUMERATEDs have two octets.
-- Assumes nothing.
use mathlib.Core.List.Memᴰ.{head as here}
use mathlib.Core.List.Memᴰ.{tail as there}
use mathlib.Core.List.{List, [], ◌∷◌, ◌++◌, map, Memᴰ as In}
use mathlib.Core.Path.{◌≡◌, refl}
use Prim.Native.Nat.{ℕ, zero, suc, ◌<◌}
use native.Mathlib.Omega.{arith}
use lib.ListN.{length}
use Rattle.octets.specs.Lists.{joined}
use Rattle.octets.specs.Numbers.{Octets, octets_of}
use Rattle.octets.specs.Permutations.{every_cons, AllOctets}
use Rattle.octets.proofs.Permutations.{every_left, every_right, all_octets}
use Rattle.table.specs.Syntax.{Tag, Enumerated, Body, Plain, Record, table}
use Rattle.table.specs.Octets.{tag_octets, own_octets, record_octets, Spells}

-- the octets of one element are among those of all
element_octets : {A : Type 0} (f : A → List ℕ) {x : A} {l : List A} → In x l → AllOctets (joined (map f l)) → AllOctets (f x)
unfolding joined
element_octets f (here {x = y} {xs = l} q) o = rw q (every_left (f y) (joined (map f l)) o)
element_octets f (there {x = y} i) o = element_octets f i (every_right (f y) o)

two_octets : (n : ℕ) → AllOctets (octets_of n) → n < 65536
two_octets n (every_cons a o) = omega arith

tag_octets_lem : (g : Tag) → AllOctets (tag_octets g) → g.number < 65536
unfolding tag_octets
tag_octets_lem g (every_cons a o) = two_octets g.number o

listed_octets : (x : Body) (ns : List ℕ) → x ≡ Plain (Enumerated ns) → AllOctets (own_octets x) → AllOctets (joined (map octets_of ns))
unfolding own_octets
listed_octets x ns q o = every_right (length ns ∷ []) (rw q at o)

-- behind the mark, the kind and the count
parts_octets : (r : Record) → AllOctets (record_octets r) → AllOctets (joined (map tag_octets r.tags) ++ own_octets r.body)
unfolding record_octets
parts_octets r (every_cons a (every_cons b (every_cons c (every_cons d o)))) = o

table_in_lem : (rs : List Record) (t : ℕ) → t < length rs → In (table rs t) rs
unfolding table
table_in_lem [] t h = absurd (omega arith)
table_in_lem (r ∷ rs) zero h = here refl
table_in_lem (r ∷ rs) (suc t) h = there (table_in_lem rs t (omega arith))

module _ {b : List ℕ} {rs : List Record} (o : Octets b) (x : Spells b rs) (t : ℕ) (h : t < length rs) where
  its_octets : AllOctets (joined (map tag_octets (table rs t).tags) ++ own_octets (table rs t).body)
  its_octets = parts_octets (table rs t) (element_octets record_octets (table_in_lem rs t h) (rw x.is at (all_octets b o)))

  pub tag_numbers : (g : Tag) → In g (table rs t).tags → g.number < 65536
  tag_numbers g i = tag_octets_lem g (element_octets tag_octets i (every_left (joined (map tag_octets (table rs t).tags)) (own_octets (table rs t).body) its_octets))

  pub listed_numbers : (ns : List ℕ) → (table rs t).body ≡ Plain (Enumerated ns) → (k : ℕ) → In k ns → k < 65536
  listed_numbers ns q k i =
      two_octets k (element_octets octets_of i (listed_octets (table rs t).body ns q (every_right (joined (map tag_octets (table rs t).tags)) its_octets)))
