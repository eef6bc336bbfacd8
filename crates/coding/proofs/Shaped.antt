-- A value equivalent to one that has octets has octets; so does every value that is read from a message of at most 8,192 octets.
-- Assumes nothing.
use borrow.Author.Tests.{leb-true, ltb-true, ltb-false, eqb-true}
use mathlib.Core.Bool.{true}
use mathlib.Core.List.{List, [], ◌∷◌, Memᴰ as In}
use mathlib.Core.Option.{Option, some, none}
use mathlib.Core.Path.{◌≡◌, refl, ap, ◌∙◌}
use native.Mathlib.Omega.{arith}
use Prim.Native.Nat.{ℕ, zero, suc, ◌≤◌, ◌<◌}
use lib.Dec.{leb, ltb, eqb}
use lib.ListN.{length, length-append}
use Rattle.octets.specs.Lists.{joined}
use Rattle.octets.specs.Permutations.{Perm, Sel, Sel.here, Sel.there, Perm.none as none_p, Perm.next, Each, nil, cons, Every, every_nil, every_cons, AllOctets, Order}
use Rattle.octets.proofs.Tests.{test, and_right}
use Rattle.octets.proofs.Members.{any_some}
use Rattle.octets.proofs.Permutations.{Perm_sym, every_perm, joined_octets, arranged_perm}
use Rattle.x690.specs.BitString.{masked}
use Rattle.x690.proofs.Integers.{integer_fits}
use Rattle.x690.proofs.BitString.{masked_masked, masked_unused, masked_octets}
use Rattle.x690.proofs.Items.{constructed_octets, constructed_fits}
use Rattle.x690.proofs.Segments.{carried_octets, carried_fits}
use Rattle.table.specs.Syntax.{Member, Simple, Boolean, Integer, BitString, OctetString, Null, Enumerated, Time, Body, Plain, Sequence, Set, SequenceOf, SetOf, Choice, Record, Table, absent}
use Rattle.table.specs.Octets.{body_shaped, record_shaped}
use Rattle.table.specs.Passes.{Passes}
use Rattle.table.proofs.Promises.{shaped_body}
use Rattle.coding.specs.Value.{Leaf, Value, slots, bag, count}
use Rattle.coding.specs.Content.{listed, Content, c_boolean, c_integer, c_bits, c_string, c_null, c_enumerated, c_time}
use Rattle.coding.specs.Encodes.{Coding, Pieces, done, left, sent, At, first, later, Codes, is_plain, is_sequence, is_set, is_sequence_of, is_set_of, is_chosen, Wrapped, bare, tagged, EncodesAt}
use Rattle.coding.specs.Equivalent.{Slot, Alike, same_leaf, same_sequence, same_set, same_sequence_of, same_set_of, same_choice, EquivalentAt}
use Rattle.coding.specs.Shaped.{LeafShaped, Whole, Shaped, AllShaped}
use Rattle.coding.proofs.Refusals.{encodes_some}

-- elements

bag_shaped : {vs : List Value} → Every Shaped vs → AllShaped (bag vs)
unfolding bag AllShaped
bag_shaped every_nil = tt
bag_shaped (every_cons h t) = (h, bag_shaped t)

shaped_bag : (vs : List Value) → AllShaped (bag vs) → Every Shaped vs
unfolding bag AllShaped
shaped_bag [] h = every_nil
shaped_bag (v ∷ vs) h = every_cons h.0 (shaped_bag vs h.1)

bag_whole : (vs : List Value) → Whole (bag vs)
unfolding bag Whole
bag_whole [] = tt
bag_whole (v ∷ vs) = bag_whole vs

bag_count : (vs : List Value) → count (bag vs) ≡ length vs
unfolding bag count
bag_count [] = refl
bag_count (v ∷ vs) = ap suc (bag_count vs)

sel_length : {A : Type 0} {x : A} {l r : List A} → Sel x l r → length l ≡ suc (length r)
sel_length here = refl
sel_length (there s) = ap suc (sel_length s)

perm_length : {A : Type 0} {l r : List A} → Perm l r → length l ≡ length r
perm_length none_p = refl
perm_length (next s p) = sel_length s ∙ ap suc (perm_length p)

each_length : {A B : Type 0} {R : A → B → Type 0} {l : List A} {r : List B} → Each R l r → length l ≡ length r
each_length nil = refl
each_length (cons h t) = ap suc (each_length t)

slots_count : (os : List (Option Value)) → count (slots os) ≡ length os
unfolding slots count
slots_count [] = refl
slots_count (none ∷ os) = ap suc (slots_count os)
slots_count (some v ∷ os) = ap suc (slots_count os)

module _ {Q : Value → Value → Type 0} (f : (a b : Value) → Q a b → Shaped a → Shaped b) where
  slot_shaped : (a b : Option Value) (os ps : List (Option Value)) → Slot Q a b → AllShaped (slots (a ∷ os)) → (AllShaped (slots os) → AllShaped (slots ps)) → AllShaped (slots (b ∷ ps))
  unfolding slots AllShaped
  slot_shaped none none os ps q h k = k h
  slot_shaped none (some w) os ps q h k = absurd q
  slot_shaped (some v) none os ps q h k = absurd q
  slot_shaped (some v) (some w) os ps q h k = (f v w q h.0, k h.1)

  slots_shaped : {os ps : List (Option Value)} → Each (Slot Q) os ps → AllShaped (slots os) → AllShaped (slots ps)
  unfolding slots AllShaped
  slots_shaped nil h = h
  slots_shaped (cons {a = a} {b = b} {l = os} {r = ps} q t) h = slot_shaped a b os ps q h (slots_shaped t)

  each_shaped : {vs ws : List Value} → Each Q vs ws → Every Shaped vs → Every Shaped ws
  each_shaped nil every_nil = every_nil
  each_shaped (cons q t) (every_cons h k) = every_cons (f _ _ q h) (each_shaped t k)

  alike_shaped : {o : Order} {v w : Value} → Alike o Q v w → Shaped v → Shaped w
  unfolding Shaped
  alike_shaped same_leaf h = h
  alike_shaped (same_sequence {os = os} {ps = ps} t) h =
      let e = slots_count os in let g = slots_count ps in let k = each_length t in let l = h.0 in (omega arith, slots_shaped t h.1)
  alike_shaped (same_set {os = os} {ps = ps} t) h =
      let e = slots_count os in let g = slots_count ps in let k = each_length t in let l = h.0 in (omega arith, slots_shaped t h.1)
  alike_shaped (same_sequence_of {vs = vs} {ws = ws} t) h =
      let e = bag_count vs in let g = bag_count ws in let k = each_length t in let l = h.0 in
      (omega arith, bag_whole ws, bag_shaped (each_shaped t (shaped_bag vs h.2)))
  alike_shaped (same_set_of {vs = vs} {ws = ws} us p t) h =
      let e = bag_count vs in let g = bag_count ws in let k = each_length t in let q = perm_length (arranged_perm p) in let l = h.0 in
      (omega arith, bag_whole ws, bag_shaped (each_shaped t (every_perm (Perm_sym (arranged_perm p)) (shaped_bag vs h.2))))
  alike_shaped (same_choice {v = v} {w = w} q) h = (h.0, f v w q h.1)

pub equivalent_shaped : (o : Order) (n : ℕ) (v w : Value) → EquivalentAt o n v w → Shaped v → Shaped w
unfolding EquivalentAt
equivalent_shaped o zero v w e h = absurd e
equivalent_shaped o (suc n) v w e h = alike_shaped (equivalent_shaped o n) e h

-- what a table's own octets allow: counts of one octet, numbers of two
unfoldable pub Limited : Body → Type 0
Limited (Plain Boolean) = Unit {0}
Limited (Plain Integer) = Unit {0}
Limited (Plain BitString) = Unit {0}
Limited (Plain OctetString) = Unit {0}
Limited (Plain Null) = Unit {0}
Limited (Plain (Enumerated ns)) = (k : ℕ) → listed ns k ≡ true → k < 65536
Limited (Plain (Time k)) = Unit {0}
Limited (Sequence ms) = length ms < 256
Limited (Set ms) = length ms < 256
Limited (SequenceOf t) = Unit {0}
Limited (SetOf t) = Unit {0}
Limited (Choice ts) = length ts ≤ 256

masked_length : (n : ℕ) (c : List ℕ) → length (masked n c) ≡ length c
unfolding masked
masked_length n [] = refl
masked_length n (x ∷ []) = refl
masked_length n (x ∷ y ∷ c) = ap suc (masked_length n (y ∷ c))

content_shaped : {k : Simple} {x : Leaf} {c : List ℕ} → Limited (Plain k) → AllOctets c → length c ≤ 8192 → Content k x c → LeafShaped x
unfolding Limited LeafShaped
content_shaped l o h c_boolean = tt
content_shaped l o h (c_integer {c = c} e k) = integer_fits c o k
content_shaped l (every_cons g o) h (c_bits {n = n} {c = c} e) =
    let k = masked_length n c in (masked_octets n o, masked_unused n c ∙ e, masked_masked n c, omega arith)
content_shaped l o h c_string = (o, omega arith)
content_shaped l o h c_null = tt
content_shaped l o h (c_enumerated {k = k} e g z q) = l k q
content_shaped l o h (c_time e) = e

module _ {E : Coding} (n : ℕ) (some_octet : (t : ℕ) (v : Value) (m : List ℕ) → E t v m → 0 < length m) (f : (t : ℕ) (v : Value) (m : List ℕ) → AllOctets m → length m ≤ n → E t v m → Shaped v) where
  pieces_shaped : {ms : List Member} {os : List (Option Value)} {ps : List (List ℕ)} → Every (λ p. AllOctets p) ps → Every (λ p. length p ≤ n) ps → Pieces E ms os ps → AllShaped (slots os)
  unfolding slots AllShaped
  pieces_shaped o l done = tt
  pieces_shaped o l (left p) = pieces_shaped o l p
  pieces_shaped (every_cons a o) (every_cons b l) (sent e p) = (f _ _ _ a b e, pieces_shaped o l p)

  elements_shaped : {t : ℕ} {vs : List Value} {ps : List (List ℕ)} → Every (λ p. AllOctets p) ps → Every (λ p. length p ≤ n) ps → Each (E t) vs ps → Every Shaped vs
  elements_shaped o l nil = every_nil
  elements_shaped (every_cons a o) (every_cons b l) (cons e es) = every_cons (f _ _ _ a b e) (elements_shaped o l es)

  each_some : {t : ℕ} {vs : List Value} {ps : List (List ℕ)} → Each (E t) vs ps → Every (λ p. 0 < length p) ps
  each_some nil = every_nil
  each_some (cons e es) = every_cons (some_octet _ _ _ e) (each_some es)

every_short : (n : ℕ) (ps : List (List ℕ)) → length (joined ps) ≤ n → Every (λ p. length p ≤ n) ps
unfolding joined
every_short n [] h = every_nil
every_short n (p ∷ ps) h = let e = length-append p (joined ps) in every_cons {x = p} (omega arith) (every_short n ps (omega arith))

few_pieces : {ps : List (List ℕ)} → Every (λ p. 0 < length p) ps → length ps ≤ length (joined ps)
unfolding joined
few_pieces every_nil = omega arith
few_pieces (every_cons {x = p} {l = ps} h t) = let e = length-append p (joined ps) in let k = few_pieces t in omega arith

pieces_count : {E : Coding} {ms : List Member} {os : List (Option Value)} {ps : List (List ℕ)} → Pieces E ms os ps → length os ≡ length ms
pieces_count done = refl
pieces_count (left p) = ap suc (pieces_count p)
pieces_count (sent e p) = ap suc (pieces_count p)

at_below : {t n : ℕ} {ts : List ℕ} → At t ts n → n < length ts
at_below first = omega arith
at_below (later a) = let h = at_below a in omega arith

module _ {o : Order} {E : Coding} (some_octet : (t : ℕ) (v : Value) (m : List ℕ) → E t v m → 0 < length m) (f : (t : ℕ) (v : Value) (m : List ℕ)
    → AllOctets m → length m ≤ 8192 → E t v m → Shaped v) where
  kind_shaped : {i : List ℕ} {k : Body} {v : Value} {m : List ℕ} → Limited k → AllOctets m → length m ≤ 8192 → Codes o E i k v m → Shaped v
  unfolding Limited Shaped
  kind_shaped l a h (is_plain c x p) = let g = carried_fits p in content_shaped l (carried_octets p a) (omega arith) x
  kind_shaped l a h (is_sequence {os = os} ps p q r) =
      let g = constructed_fits r in
      let e = slots_count os in
      let k = pieces_count p in
      (omega arith, pieces_shaped 8192 some_octet f (joined_octets ps (constructed_octets r a)) (every_short 8192 ps (omega arith)) p)
  kind_shaped l a h (is_set {os = os} ps qs p q c r) =
      let g = constructed_fits r in
      let e = slots_count os in
      let k = pieces_count p in
      (omega arith, pieces_shaped 8192 some_octet f (every_perm c (joined_octets qs (constructed_octets r a))) (every_perm c (every_short 8192 qs (omega arith))) p)
  kind_shaped l a h (is_sequence_of {vs = vs} ps es r) =
      let g = constructed_fits r in
      let e = bag_count vs in
      let k = each_length es in
      let j = few_pieces (each_some 8192 some_octet f es) in
      (omega arith, bag_whole vs, bag_shaped (elements_shaped 8192 some_octet f (joined_octets ps (constructed_octets r a)) (every_short 8192 ps (omega arith)) es))
  kind_shaped l a h (is_set_of {vs = vs} ps qs es c r) =
      let g = constructed_fits r in
      let e = bag_count vs in
      let k = each_length es in
      let d = arranged_perm c in
      let q = perm_length d in
      let j = few_pieces (every_perm (Perm_sym d) (each_some 8192 some_octet f es)) in
      (omega arith, bag_whole vs, bag_shaped (elements_shaped 8192 some_octet f (every_perm d (joined_octets qs (constructed_octets r a))) (every_perm d (every_short 8192 qs (omega arith))) es))
  kind_shaped l a h (is_chosen {n = i} {t = t} {v = v} {m = m} p e) = let g = at_below p in (omega arith, f t v m a h e)

wrapped_inner : {C : List ℕ → Type 0} {is : List (List ℕ)} {m : List ℕ} → AllOctets m → length m ≤ 8192 → Wrapped C is m → (c : List ℕ) × AllOctets c × (length c ≤ 8192) × C c
wrapped_inner o h (bare {m = m} c) = (m, o, h, c)
wrapped_inner o h (tagged w r) = let g = constructed_fits r in wrapped_inner (constructed_octets r o) (omega arith) w

-- what a message of at most 8,192 octets carries is a tree that has octets
pub encodes_shaped : (o : Order) (T : Table) → ((t : ℕ) → Limited (T t).body) → (n t : ℕ) (v : Value) (m : List ℕ) → AllOctets m → length m ≤ 8192 → EncodesAt o T n t v m → Shaped v
unfolding EncodesAt
encodes_shaped o T l zero t v m a h e = absurd e
encodes_shaped o T l (suc n) t v m a h e =
    let (c, b, k, x) = wrapped_inner a h e in
    kind_shaped (encodes_some o T n) (encodes_shaped o T l n) (l t) b k x

shaped_limited : (b : Body) → body_shaped b ≡ true → ((ns : List ℕ) → b ≡ Plain (Enumerated ns) → (k : ℕ) → listed ns k ≡ true → k < 65536) → Limited b
unfolding body_shaped Limited
shaped_limited (Plain Boolean) e f = tt
shaped_limited (Plain Integer) e f = tt
shaped_limited (Plain BitString) e f = tt
shaped_limited (Plain OctetString) e f = tt
shaped_limited (Plain Null) e f = tt
shaped_limited (Plain (Enumerated ns)) e f = f ns refl
shaped_limited (Plain (Time k)) e f = tt
shaped_limited (Sequence ms) e f = let h = leb-true (length ms) 16 e in omega arith
shaped_limited (Set ms) e f = let h = leb-true (length ms) 16 e in omega arith
shaped_limited (SequenceOf t) e f = tt
shaped_limited (SetOf t) e f = tt
shaped_limited (Choice ts) e f = let h = leb-true (length ts) 16 (and_right (leb 1 (length ts)) _ e) in omega arith

record_limited : (r : Record) → record_shaped r ≡ true → ((ns : List ℕ) → r.body ≡ Plain (Enumerated ns) → (k : ℕ) → listed ns k ≡ true → k < 65536) → Limited r.body
record_limited r e f = shaped_limited r.body (shaped_body r e) f

absent_limited : (r : Record) → r ≡ absent → Limited r.body
unfolding Limited
absent_limited r e = rw e (omega arith)

-- a number that is listed is one of the list
listed_in : (ns : List ℕ) (k : ℕ) → listed ns k ≡ true → In k ns
unfolding listed
listed_in ns k e = let s = any_some (λ n. eqb n k) ns e in rw (← eqb-true s.element k s.has) s.among

-- the limits of a table that passes
pub limited : (b : List ℕ) (T : Table) (n : ℕ) → Passes b T n → (t : ℕ) → Limited (T t).body
limited b T n p t =
    test (ltb t n)
    (λ e. let l = ltb-true t n e in record_limited (T t) (p.shaped t l) (λ ns q k f. p.listed_numbers t l ns q k (listed_in ns k f)))
    λ e. absent_limited (T t) (p.no_more t (ltb-false t n e))
