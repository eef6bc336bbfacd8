-- What X.690 permits for a value of a type, from the sender's side (X.690, 8; FORMATS, "Messages").
-- Assumes nothing.
use Rattle.std.specs.Prelude.{Bool, true, false, ◌&&◌, List, [], ◌∷◌, ◌≡◌, ℕ, zero, suc}
use Rattle.std.proofs.Math.Option.{Option, some, none}
use Rattle.octets.specs.Lists.{joined}
use Rattle.octets.specs.Permutations.{Perm, Each, Order, any_order, as_given, Arranged}
use Rattle.x690.specs.Item.{Constructed}
use Rattle.x690.specs.Segments.{Carries}
use Rattle.table.specs.Syntax.{Member, Simple, Body, Plain, Sequence, Set, SequenceOf, SetOf, Choice, Table}
use Rattle.coding.specs.Value.{Leaf, Value, leaf, sequence, set, sequence_of, set_of, choice, slots, bag}
use Rattle.coding.specs.Content.{Content, segmented}
use Rattle.coding.specs.Tags.{own_tag, explicit}

-- which octets encode which values of which types
abbrev pub Coding : Type 1
Coding = ℕ → Value → List ℕ → Type 0

-- a member that is missing is optional
unfoldable pub allowed : List Member → List (Option Value) → Bool
allowed [] [] = true
allowed [] (o ∷ os) = false
allowed (m ∷ ms) [] = false
allowed (m ∷ ms) (none ∷ os) = m.optional && allowed ms os
allowed (m ∷ ms) (some v ∷ os) = allowed ms os

-- encodings of the members that are there, in the table's order: each of them is sent
pub data Pieces (E : Coding) : List Member → List (Option Value) → List (List ℕ) → Type 0 where
  done : Pieces E [] [] []
  left : {m : Member} {ms : List Member} {os : List (Option Value)} {ps : List (List ℕ)} → Pieces E ms os ps → Pieces E (m ∷ ms) (none ∷ os) ps
  sent : {m : Member} {ms : List Member} {os : List (Option Value)} {v : Value} {p : List ℕ} {ps : List (List ℕ)}
      → E m.type v p → Pieces E ms os ps → Pieces E (m ∷ ms) (some v ∷ os) (p ∷ ps)

-- x stands at a place of a list
pub data At {A : Type 0} (x : A) : List A → ℕ → Type 0 where
  first : {l : List A} → At x (x ∷ l) zero
  later : {y : A} {l : List A} {n : ℕ} → At x l n → At x (y ∷ l) (suc n)

-- The item of a value of a kind, with the identifier octets i, where E encodes the values below. 8.9 SEQUENCE, 8.10 SEQUENCE OF in order;
-- 8.11 SET, 8.12 SET OF in any order (or the elements of a SET OF as the value gives them); 8.13 CHOICE: the encoding of the chosen value.
pub data Codes (o : Order) (E : Coding) (i : List ℕ) : Body → Value → List ℕ → Type 0 where
  is_plain : {k : Simple} {x : Leaf} {m : List ℕ} (c : List ℕ) → Content k x c → Carries i c m (segmented k) → Codes o E i (Plain k) (leaf x) m
  is_sequence : {ms : List Member} {os : List (Option Value)} {m : List ℕ} (ps : List (List ℕ))
      → Pieces E ms os ps → allowed ms os ≡ true → Constructed i (joined ps) m → Codes o E i (Sequence ms) (sequence (slots os)) m
  is_set : {ms : List Member} {os : List (Option Value)} {m : List ℕ} (ps qs : List (List ℕ))
      → Pieces E ms os ps → allowed ms os ≡ true → Perm ps qs → Constructed i (joined qs) m → Codes o E i (Set ms) (set (slots os)) m
  is_sequence_of : {t : ℕ} {vs : List Value} {m : List ℕ} (ps : List (List ℕ))
      → Each (E t) vs ps → Constructed i (joined ps) m → Codes o E i (SequenceOf t) (sequence_of (bag vs)) m
  is_set_of : {t : ℕ} {vs : List Value} {m : List ℕ} (ps qs : List (List ℕ))
      → Each (E t) vs ps → Arranged o ps qs → Constructed i (joined qs) m → Codes o E i (SetOf t) (set_of (bag vs)) m
  is_chosen : {ts : List ℕ} {n t : ℕ} {v : Value} {m : List ℕ} → At t ts n → E t v m → Codes o E i (Choice ts) (choice n v) m

-- 8.14: what C permits, in items with the identifier octets `is` around it, the outermost first
pub data Wrapped (C : List ℕ → Type 0) : List (List ℕ) → List ℕ → Type 0 where
  bare : {m : List ℕ} → C m → Wrapped C [] m
  tagged : {i : List ℕ} {is : List (List ℕ)} {c m : List ℕ} → Wrapped C is c → Constructed i c m → Wrapped C (i ∷ is) m

-- the encodings of the values that have at most n levels
unfoldable pub EncodesAt : Order → Table → ℕ → Coding
EncodesAt o T zero t v m = ⊥
EncodesAt o T (suc n) t v m = Wrapped (Codes o (EncodesAt o T n) (own_tag (T t)) (T t).body v) (explicit (T t)) m

-- m is one of the encodings that X.690 permits for the value v of the type t
pub record Encodes (T : Table) (t : ℕ) (v : Value) (m : List ℕ) : Type 0 where
  pub level : ℕ
  pub encodes : EncodesAt any_order T level t v m

-- and with the elements of each SET OF in the order of arrival: as the value gives them
pub record Arrives (T : Table) (t : ℕ) (v : Value) (m : List ℕ) : Type 0 where
  pub level : ℕ
  pub encodes : EncodesAt as_given T level t v m
