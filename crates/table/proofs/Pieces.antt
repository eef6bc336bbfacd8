-- Tags, numbers, members and alternatives: what is read at a place has the octets there, and what has them is read.
-- Assumes nothing.
use mathlib.Core.Bool.{Bool, true, false, ◌&&◌}
use mathlib.Core.List.{List, [], ◌∷◌, ◌++◌, map}
use mathlib.Core.Path.{◌≡◌, refl, ap, ◌∙◌}
use Prim.Native.Nat.{ℕ, zero, suc, ◌+◌, ◌*◌, ◌≤◌}
use native.Mathlib.Omega.{arith}
use lib.Dec.{leb, eqb}
use lib.ListN.{length, drop, get_or}
use borrow.Author.Tests.{leb-true, eqb-true, eqb-false}
use Rattle.octets.proofs.Tests.{test}
use Rattle.octets.specs.Lists.{all, joined}
use Rattle.octets.specs.Numbers.{Octets, two, octets_of}
use Rattle.octets.proofs.Lists.{map_same, all_map, all_yes, behind, at_part, at_first, length_joined, items_at, length_items, items_back, items_only, drop_one, drop_two, two_back, two_only}
use Rattle.table.specs.Syntax.{Tag, Member}
use Rattle.table.specs.Octets.{tag_octets, member_octets, flag}
use Rattle.table.specs.Reading.{tags_at, numbers_at, members_at, every_at}

abbrev pub tag_at : List ℕ → ℕ → Tag
tag_at b p = record { class = get_or b p 0; number = two b (p + 1) }

abbrev pub member_at : List ℕ → ℕ → Member
member_at b p = record { type = get_or b p 0; optional = eqb (get_or b (p + 1) 0) 1 }

tags_items : (b : List ℕ) (p n : ℕ) → tags_at b p n ≡ items_at (tag_at b) 3 p n
unfolding tags_at items_at
tags_items b p zero = refl
tags_items b p (suc n) = ap {B = List Tag} (λ l. tag_at b p ∷ l) (tags_items b (p + 3) n)

numbers_items : (b : List ℕ) (p n : ℕ) → numbers_at b p n ≡ items_at (two b) 2 p n
unfolding numbers_at items_at
numbers_items b p zero = refl
numbers_items b p (suc n) = ap {B = List ℕ} (λ l. two b p ∷ l) (numbers_items b (p + 2) n)

members_items : (b : List ℕ) (p n : ℕ) → members_at b p n ≡ items_at (member_at b) 2 p n
unfolding members_at items_at
members_items b p zero = refl
members_items b p (suc n) = ap {B = List Member} (λ l. member_at b p ∷ l) (members_items b (p + 2) n)

every_items : (step : ℕ) (b : List ℕ) (d p n : ℕ) → every_at step b (p + d) n ≡ items_at (λ q. get_or b (q + d) 0) step p n
unfolding every_at items_at
every_items step b d p zero = refl
every_items step b d p (suc n) =
    let q : p + d + step ≡ p + step + d = omega arith in
    rw q (ap {B = List ℕ} (λ l. get_or b (p + d) 0 ∷ l) (every_items step b d (p + step) n))

pub length_tags : (b : List ℕ) (p n : ℕ) → length (tags_at b p n) ≡ n
length_tags b p n = rw tags_items (length_items (tag_at b) 3 p n)

pub length_numbers : (b : List ℕ) (p n : ℕ) → length (numbers_at b p n) ≡ n
length_numbers b p n = rw numbers_items (length_items (two b) 2 p n)

pub length_members : (b : List ℕ) (p n : ℕ) → length (members_at b p n) ≡ n
length_members b p n = rw members_items (length_items (member_at b) 2 p n)

pub length_every : (step : ℕ) (b : List ℕ) (p n : ℕ) → length (every_at step b p n) ≡ n
unfolding every_at
length_every step b p zero = refl
length_every step b p (suc n) = ap suc (length_every step b (p + step) n)

-- the record numbers of members
pub types_every : (b : List ℕ) (p n : ℕ) → map (λ m. m.type) (members_at b p n) ≡ every_at 2 b p n
unfolding members_at every_at
types_every b p zero = refl
types_every b p (suc n) = ap {B = List ℕ} (λ l. get_or b p 0 ∷ l) (types_every b (p + 2) n)

-- what is read has the octets

module _ (b : List ℕ) (o : Octets b) where
  tag_back : (p : ℕ) → p + 3 ≤ length b → drop p b ≡ tag_octets (tag_at b p) ++ drop (p + 3) b
  unfolding tag_octets
  tag_back p h =
      let q : p + 1 + 2 ≡ p + 3 = omega arith in
      drop_one b p (omega arith) ∙ rw (two_back b o (p + 1) (omega arith), q)

  pub tags_back : (p n : ℕ) → p + 3 * n ≤ length b → drop p b ≡ joined (map tag_octets (tags_at b p n)) ++ drop (p + 3 * n) b
  tags_back p n h =
      rw tags_items (items_back b tag_octets 3 (tag_at b) (λ x. true) (λ q. q) (λ q l e. tag_back q l) p n h (all_yes (λ x. true) (λ x. refl) _))

  pub numbers_back : (p n : ℕ) → p + 2 * n ≤ length b → drop p b ≡ joined (map octets_of (numbers_at b p n)) ++ drop (p + 2 * n) b
  numbers_back p n h =
      rw numbers_items (items_back b octets_of 2 (two b) (λ x. true) (λ q. q) (λ q l e. two_back b o q l) p n h (all_yes (λ x. true) (λ x. refl) _))

flag_back : (x : ℕ) → leb x 1 ≡ true → flag (eqb x 1) ≡ x
flag_back x e = let l = leb-true x 1 e in test (eqb x 1) (λ t. rw t (omega (arith, eqb-true))) λ t. rw t (omega (arith, eqb-false))

member_back : (b : List ℕ) (p : ℕ) → p + 2 ≤ length b → leb (get_or b (p + 1) 0) 1 ≡ true → drop p b ≡ member_octets (member_at b p) ++ drop (p + 2) b
unfolding member_octets
member_back b p h e = rw (flag_back _ e) (drop_two b p h)

pub members_back : (b : List ℕ) (p n : ℕ) → p + 2 * n ≤ length b → all (λ x. leb x 1) (every_at 2 b (p + 1) n) ≡ true
    → drop p b ≡ joined (map member_octets (members_at b p n)) ++ drop (p + 2 * n) b
members_back b p n h e =
    rw members_items (items_back b member_octets 2 (member_at b) (λ x. leb x 1) (λ q. get_or b (q + 1) 0) (member_back b) p n h (rw every_items at e))

pub every_back : (b : List ℕ) (p n : ℕ) → p + 1 * n ≤ length b → drop p b ≡ every_at 1 b p n ++ drop (p + 1 * n) b
unfolding every_at
every_back b p zero h = let q : p + 1 * 0 ≡ p = omega arith in rw q
every_back b p (suc n) h =
    let q : p + 1 * suc n ≡ p + 1 + 1 * n = omega arith in
    drop_one b p (omega arith) ∙ rw (q, ← every_back b (p + 1) n (omega arith))

-- the classes and the flags
pub classes : (b : List ℕ) (p n : ℕ) → all (λ x. leb x 3) (every_at 3 b p n) ≡ all (λ g. leb g.class 3) (tags_at b p n)
unfolding every_at tags_at all
classes b p zero = refl
classes b p (suc n) = ap (λ t. leb (get_or b p 0) 3 && t) (classes b (p + 3) n)

-- what has the octets is read

tag_only : (b : List ℕ) (p : ℕ) (g : Tag) (w : List ℕ) → drop p b ≡ tag_octets g ++ w → tag_at b p ≡ g
unfolding tag_octets
tag_only b p g w e = rw (two_only b (p + 1) g.number w (behind b p (g.class ∷ []) _ e), at_first b p 0 _ _ e)

flag_is : (t : Bool) → eqb (flag t) 1 ≡ t
flag_is true = refl
flag_is false = refl

flag_small : (t : Bool) → leb (flag t) 1 ≡ true
flag_small true = refl
flag_small false = refl

member_only : (b : List ℕ) (p : ℕ) (m : Member) (w : List ℕ) → drop p b ≡ member_octets m ++ w → member_at b p ≡ m
unfolding member_octets
member_only b p m w e = rw (at_first b p 0 _ _ e, at_part b p 1 0 _ e, flag_is m.optional)

module _ (b : List ℕ) (p : ℕ) where
  pub tags_only : (gs : List Tag) (u : List ℕ) → drop p b ≡ joined (map tag_octets gs) ++ u → tags_at b p (length gs) ≡ gs
  unfolding tag_octets
  tags_only gs u e = rw tags_items (items_only b tag_octets 3 (λ g. g) (tag_at b) (λ g. refl) (tag_only b) p gs u e ∙ map_same gs)

  pub numbers_only : (ns : List ℕ) (u : List ℕ) → drop p b ≡ joined (map octets_of ns) ++ u → numbers_at b p (length ns) ≡ ns
  numbers_only ns u e = rw numbers_items (items_only b octets_of 2 (λ n. n) (two b) (λ n. refl) (two_only b) p ns u e ∙ map_same ns)

  pub members_only : (ms : List Member) (u : List ℕ) → drop p b ≡ joined (map member_octets ms) ++ u → members_at b p (length ms) ≡ ms
  unfolding member_octets
  members_only ms u e = rw members_items (items_only b member_octets 2 (λ m. m) (member_at b) (λ m. refl) (member_only b) p ms u e ∙ map_same ms)

  pub flags_only : (ms : List Member) (u : List ℕ) → drop p b ≡ joined (map member_octets ms) ++ u
      → all (λ x. leb x 1) (every_at 2 b (p + 1) (length ms)) ≡ true
  unfolding member_octets
  flags_only ms u e =
      rw (every_items, items_only b member_octets 2 (λ m. flag m.optional) (λ q. get_or b (q + 1) 0) (λ m. refl) (λ q m w h. at_part b q 1 0 _ h) p ms u e, all_map)
      (all_yes _ (λ m. flag_small m.optional) ms)

pub every_only : (b : List ℕ) (p : ℕ) (ts : List ℕ) (u : List ℕ) → drop p b ≡ ts ++ u → every_at 1 b p (length ts) ≡ ts
unfolding every_at
every_only b p [] u e = refl
every_only b p (t ∷ ts) u e = rw (at_first b p 0 _ _ e, every_only b (p + 1) ts u (behind b p (t ∷ []) _ e))

-- how many octets there are

pub length_tagged : (gs : List Tag) → length (joined (map tag_octets gs)) ≡ 3 * length gs
unfolding tag_octets
length_tagged = length_joined tag_octets 3 λ g. refl

pub length_numbered : (ns : List ℕ) → length (joined (map octets_of ns)) ≡ 2 * length ns
length_numbered = length_joined octets_of 2 λ n. refl

pub length_membered : (ms : List Member) → length (joined (map member_octets ms)) ≡ 2 * length ms
unfolding member_octets
length_membered = length_joined member_octets 2 λ m. refl
