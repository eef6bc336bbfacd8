-- Equivalence of values: symmetric, transitive, of one length in octets; in the order that is given it is equality.
-- Assumes nothing.
use mathlib.Core.List.{List, [], ◌∷◌}
use mathlib.Core.Option.{Option, some, none}
use mathlib.Core.Path.{◌≡◌, refl, ap}
use native.Mathlib.Omega.{arith}
use Prim.Native.Nat.{ℕ, zero, suc, ◌+◌, ◌≤◌}
use lib.ListN.{length, length-append}
use Rattle.octets.specs.Permutations.{Sel, Sel.here, Sel.there, Perm, Perm.none as none_p, Perm.next, Each, nil, cons, Order, as_given, Arranged, permuted, kept}
use Rattle.octets.proofs.Permutations.{Perm_sym, Perm_trans, each_flip, each_map, each_then, arranged_each, arranged_perm}
use Rattle.coding.specs.Value.{Leaf, Value, leaf, sequence, set, sequence_of, set_of, choice, Slots, end, missing, present, slots, bag, presence, octets, slot_octets}
use Rattle.coding.specs.Equivalent.{Slot, Alike, same_leaf, same_sequence, same_set, same_sequence_of, same_set_of, same_choice, EquivalentAt}

members_of : Slots → List (Option Value)
members_of end = []
members_of (missing s) = none ∷ members_of s
members_of (present v s) = some v ∷ members_of s

values : Slots → List Value
values end = []
values (missing s) = values s
values (present v s) = v ∷ values s

members_of_slots : (os : List (Option Value)) → members_of (slots os) ≡ os
unfolding members_of slots
members_of_slots [] = refl
members_of_slots (none ∷ os) = ap (λ (l : List (Option Value)). none ∷ l) (members_of_slots os)
members_of_slots (some v ∷ os) = ap (λ (l : List (Option Value)). some v ∷ l) (members_of_slots os)

values_bag : (vs : List Value) → values (bag vs) ≡ vs
unfolding values bag
values_bag [] = refl
values_bag (v ∷ vs) = ap (λ (l : List Value). v ∷ l) (values_bag vs)

arranged_sym : {A : Type 0} {o : Order} {l r : List A} → Arranged o l r → Arranged o r l
arranged_sym (permuted p) = permuted (Perm_sym p)
arranged_sym kept = kept

arranged_trans : {A : Type 0} {o : Order} {a b c : List A} → Arranged o a b → Arranged o b c → Arranged o a c
arranged_trans (permuted p) (permuted q) = permuted (Perm_trans p q)
arranged_trans kept q = q

module _ {Q : Value → Value → Type 0} where
  slot_map : {R : Value → Value → Type 0} → ((v w : Value) → Q v w → R v w) → (a b : Option Value) → Slot Q a b → Slot R a b
  slot_map f none none h = tt
  slot_map f none (some w) h = h
  slot_map f (some v) none h = h
  slot_map f (some v) (some w) h = f v w h

  slot_sym : {R : Value → Value → Type 0} → ((v w : Value) → Q v w → R w v) → (a b : Option Value) → Slot Q a b → Slot R b a
  slot_sym f none none h = tt
  slot_sym f none (some w) h = h
  slot_sym f (some v) none h = h
  slot_sym f (some v) (some w) h = f v w h

  slot_trans : ((u v w : Value) → Q u v → Q v w → Q u w) → (a b c : Option Value) → Slot Q a b → Slot Q b c → Slot Q a c
  slot_trans f none none none h k = tt
  slot_trans f none none (some w) h k = k
  slot_trans f none (some v) c h k = absurd h
  slot_trans f (some u) none c h k = absurd h
  slot_trans f (some u) (some v) none h k = k
  slot_trans f (some u) (some v) (some w) h k = f u v w h k

module _ {o : Order} {Q : Value → Value → Type 0} where
  alike_map : {R : Value → Value → Type 0} {v w : Value} → ((a b : Value) → Q a b → R a b) → Alike o Q v w → Alike o R v w
  alike_map f same_leaf = same_leaf
  alike_map f (same_sequence h) = same_sequence (each_map (slot_map f) h)
  alike_map f (same_set h) = same_set (each_map (slot_map f) h)
  alike_map f (same_sequence_of h) = same_sequence_of (each_map f h)
  alike_map f (same_set_of us p h) = same_set_of us p (each_map f h)
  alike_map f (same_choice h) = same_choice (f _ _ h)

  alike_sym : {v w : Value} → ((a b : Value) → Q a b → Q b a) → Alike o Q v w → Alike o Q w v
  alike_sym f same_leaf = same_leaf
  alike_sym f (same_sequence h) = same_sequence (each_flip (slot_sym f) h)
  alike_sym f (same_set h) = same_set (each_flip (slot_sym f) h)
  alike_sym f (same_sequence_of h) = same_sequence_of (each_flip f h)
  alike_sym f (same_set_of us p h) = let (xs, q, k) = arranged_each (each_flip f h) (arranged_sym p) in same_set_of xs q k
  alike_sym f (same_choice h) = same_choice (f _ _ h)

  -- what is alike to a value of a known form
  from_leaf : {l : Leaf} {x : Value} → Alike o Q (leaf l) x → x ≡ leaf l
  from_leaf same_leaf = refl

  from_sequence : {s : Slots} {x : Value} → Alike o Q (sequence s) x → (ps : List (Option Value)) × (x ≡ sequence (slots ps)) × Each (Slot Q) (members_of s) ps
  from_sequence (same_sequence {os = os} {ps = ps} h) = (ps, refl, rw members_of_slots h)

  from_set : {s : Slots} {x : Value} → Alike o Q (set s) x → (ps : List (Option Value)) × (x ≡ set (slots ps)) × Each (Slot Q) (members_of s) ps
  from_set (same_set {os = os} {ps = ps} h) = (ps, refl, rw members_of_slots h)

  from_sequence_of : {s : Slots} {x : Value} → Alike o Q (sequence_of s) x → (ws : List Value) × (x ≡ sequence_of (bag ws)) × Each Q (values s) ws
  from_sequence_of (same_sequence_of {ws = ws} h) = (ws, refl, rw values_bag h)

  from_set_of : {s : Slots} {x : Value} → Alike o Q (set_of s) x → (us ws : List Value) × (x ≡ set_of (bag ws)) × Arranged o (values s) us × Each Q us ws
  from_set_of (same_set_of {vs = vs} {ws = ws} us p h) = (us, ws, refl, rw values_bag p, h)

  from_choice : {n : ℕ} {v x : Value} → Alike o Q (choice n v) x → (w : Value) × (x ≡ choice n w) × Q v w
  from_choice (same_choice {w = w} h) = (w, refl, h)

  alike_trans : {u v w : Value} → ((a b c : Value) → Q a b → Q b c → Q a c) → Alike o Q u v → Alike o Q v w → Alike o Q u w
  alike_trans f same_leaf k = rw (from_leaf k) same_leaf
  alike_trans f (same_sequence {os = os} {ps = ps} h) k =
      let (qs, e, k') = from_sequence k in
      rw e (same_sequence (each_then (slot_trans f) h (rw members_of_slots at k')))
  alike_trans f (same_set {os = os} {ps = ps} h) k =
      let (qs, e, k') = from_set k in
      rw e (same_set (each_then (slot_trans f) h (rw members_of_slots at k')))
  alike_trans f (same_sequence_of h) k = let (ys, e, k') = from_sequence_of k in rw e (same_sequence_of (each_then f h (rw values_bag at k')))
  alike_trans f (same_set_of {vs = vs} {ws = ws} us p h) k =
      let (xs, ys, e, q, k') = from_set_of k in
      let (us', p', h') = arranged_each h (rw values_bag at q) in
      rw e (same_set_of us' (arranged_trans p p') (each_then f h' k'))
  alike_trans f (same_choice h) k = let (w, e, k') = from_choice k in rw e (same_choice (f _ _ _ h k'))

pub equivalent_sym : (o : Order) (n : ℕ) (v w : Value) → EquivalentAt o n v w → EquivalentAt o n w v
unfolding EquivalentAt
equivalent_sym o zero v w h = h
equivalent_sym o (suc n) v w h = alike_sym (equivalent_sym o n) h

pub equivalent_trans : (o : Order) (n : ℕ) (u v w : Value) → EquivalentAt o n u v → EquivalentAt o n v w → EquivalentAt o n u w
unfolding EquivalentAt
equivalent_trans o zero u v w h k = h
equivalent_trans o (suc n) u v w h k = alike_trans (equivalent_trans o n) h k

pub equivalent_up : (o : Order) (n k : ℕ) (v w : Value) → n ≤ k → EquivalentAt o n v w → EquivalentAt o k v w
unfolding EquivalentAt
equivalent_up o zero k v w l h = absurd h
equivalent_up o (suc n) zero v w l h = absurd (omega arith)
equivalent_up o (suc n) (suc k) v w l h = alike_map (λ a b. equivalent_up o n k a b (omega arith)) h

-- a leaf is equivalent to itself alone
pub equivalent_leaf : (o : Order) (n : ℕ) (x : Leaf) (w : Value) → EquivalentAt o n (leaf x) w → w ≡ leaf x
unfolding EquivalentAt
equivalent_leaf o zero x w h = absurd h
equivalent_leaf o (suc n) x w h = from_leaf h

-- in the order that is given, equivalent values are equal

each_equal : {A : Type 0} {Q : A → A → Type 0} {l r : List A} → ((a b : A) → Q a b → a ≡ b) → Each Q l r → l ≡ r
each_equal f nil = refl
each_equal f (cons {a = a} {b = b} {l = l} {r = r} h t) = let e = f a b h in let k = each_equal f t in rw (e, k)

slot_equal : {Q : Value → Value → Type 0} → ((a b : Value) → Q a b → a ≡ b) → (a b : Option Value) → Slot Q a b → a ≡ b
slot_equal f none none h = refl
slot_equal f none (some w) h = absurd h
slot_equal f (some v) none h = absurd h
slot_equal f (some v) (some w) h = ap some (f v w h)

alike_equal : {Q : Value → Value → Type 0} {v w : Value} → ((a b : Value) → Q a b → a ≡ b) → Alike as_given Q v w → v ≡ w
alike_equal f same_leaf = refl
alike_equal f (same_sequence h) = ap (λ (l : List (Option Value)). sequence (slots l)) (each_equal (slot_equal f) h)
alike_equal f (same_set h) = ap (λ (l : List (Option Value)). set (slots l)) (each_equal (slot_equal f) h)
alike_equal f (same_sequence_of h) = ap (λ (l : List Value). sequence_of (bag l)) (each_equal f h)
alike_equal f (same_set_of us kept h) = ap (λ (l : List Value). set_of (bag l)) (each_equal f h)
alike_equal f (same_choice {n = n} h) = ap (choice n) (f _ _ h)

pub equivalent_equal : (n : ℕ) (v w : Value) → EquivalentAt as_given n v w → v ≡ w
unfolding EquivalentAt
equivalent_equal zero v w h = absurd h
equivalent_equal (suc n) v w h = alike_equal (equivalent_equal n) h

-- equivalent values have octets of one length

record SameSize (s u : Slots) : Type 0 where
  flags : length (presence s) ≡ length (presence u)
  lengths : length (slot_octets s) ≡ length (slot_octets u)

sel_size : {x : Value} {l r : List Value} → Sel x l r → length (slot_octets (bag l)) ≡ length (octets x) + length (slot_octets (bag r))
unfolding bag octets
sel_size {x = x} (here {l = l}) = length-append (octets x) (slot_octets (bag l))
sel_size {x = x} (there {y = y} {l = l} {r = r} s) =
    let h = sel_size s in
    let a = length-append (octets y) (slot_octets (bag l)) in
    let b = length-append (octets y) (slot_octets (bag r)) in
    omega arith

perm_size : {l r : List Value} → Perm l r → length (slot_octets (bag l)) ≡ length (slot_octets (bag r))
unfolding bag octets
perm_size none_p = refl
perm_size (next {x = x} {l' = l'} {r = r} s p) =
    let h = sel_size s in
    let k = perm_size p in
    let a = length-append (octets x) (slot_octets (bag r)) in
    omega arith

module _ {Q : Value → Value → Type 0} (f : (a b : Value) → Q a b → length (octets a) ≡ length (octets b)) where
  slot_size : (a b : Option Value) (os ps : List (Option Value)) → Slot Q a b → SameSize (slots os) (slots ps) → SameSize (slots (a ∷ os)) (slots (b ∷ ps))
  unfolding slots presence octets
  slot_size none none os ps h k = record { flags = ap suc k.flags; lengths = k.lengths }
  slot_size none (some w) os ps h k = absurd h
  slot_size (some v) none os ps h k = absurd h
  slot_size (some v) (some w) os ps h k =
      let e = f v w h in
      let z = k.lengths in
      let a = length-append (octets v) (slot_octets (slots os)) in
      let b = length-append (octets w) (slot_octets (slots ps)) in
      record { flags = ap suc k.flags; lengths = omega arith }

  slots_size : {os ps : List (Option Value)} → Each (Slot Q) os ps → SameSize (slots os) (slots ps)
  unfolding slots presence
  slots_size nil = record { flags = refl; lengths = refl }
  slots_size (cons {a = a} {b = b} {l = os} {r = ps} h t) = slot_size a b os ps h (slots_size t)

  bag_size : {vs ws : List Value} → Each Q vs ws → length (slot_octets (bag vs)) ≡ length (slot_octets (bag ws))
  unfolding bag octets
  bag_size nil = refl
  bag_size (cons {a = v} {b = w} {l = vs} {r = ws} h t) =
      let e = f v w h in
      let z = bag_size t in
      let a = length-append (octets v) (slot_octets (bag vs)) in
      let b = length-append (octets w) (slot_octets (bag ws)) in
      omega arith

  alike_length : {o : Order} {v w : Value} → Alike o Q v w → length (octets v) ≡ length (octets w)
  unfolding octets
  alike_length same_leaf = refl
  alike_length (same_sequence {os = os} {ps = ps} h) =
      let k = slots_size h in
      let x = k.flags in
      let y = k.lengths in
      let a = length-append (presence (slots os)) (slot_octets (slots os)) in
      let b = length-append (presence (slots ps)) (slot_octets (slots ps)) in
      omega arith
  alike_length (same_set {os = os} {ps = ps} h) =
      let k = slots_size h in
      let x = k.flags in
      let y = k.lengths in
      let a = length-append (presence (slots os)) (slot_octets (slots os)) in
      let b = length-append (presence (slots ps)) (slot_octets (slots ps)) in
      omega arith
  alike_length (same_sequence_of h) = let k = bag_size h in omega arith
  alike_length (same_set_of us p h) = let a = perm_size (arranged_perm p) in let k = bag_size h in omega arith
  alike_length (same_choice {v = v} {w = w} h) = let e = f v w h in omega arith

pub equivalent_length : (o : Order) (n : ℕ) (v w : Value) → EquivalentAt o n v w → length (octets v) ≡ length (octets w)
unfolding EquivalentAt
equivalent_length o zero v w h = absurd h
equivalent_length o (suc n) v w h = alike_length (equivalent_length o n) h
