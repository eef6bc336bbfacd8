-- A node is read exactly where its octets stand.
-- Assumes nothing.
use borrow.Author.Tests.{ltb-true, leb-true, eqb-true, lt-ltb, le-leb, eq-eqb, not-false}
use mathlib.Core.Bool.{Bool, true, false}
use mathlib.Core.List.{List, [], ◌∷◌, ◌++◌}
use mathlib.Core.Path.{◌≡◌, refl, sym, ap, ◌∙◌}
use native.Mathlib.Nat.{div-add-mod'}
use native.Mathlib.Omega.{arith}
use Prim.Native.Nat.{ℕ, zero, suc, ◌+◌, ◌-◌, ◌*◌, ◌/◌, ◌%◌, ◌≤◌, ◌<◌}
use lib.Dec.{ltb, leb, eqb}
use lib.ListN.{length, get_or, take, drop, length-append, take-append-drop}
use lib.Seq.{length-take-le, take-append_seam, drop-append_seam}
use Rattle.coding.specs.declared.JudgingCause.{JudgingCause}
use Rattle.octets.specs.Answer.{Answer, got, if}
use Rattle.octets.specs.Lists.{all, same}
use Rattle.octets.specs.Numbers.{two, octets_of}
use Rattle.octets.specs.Permutations.{every_cons, AllOctets}
use Rattle.octets.proofs.Answer.{run, Holds, yields, refuses, if_holds, map_holds}
use Rattle.octets.proofs.Permutations.{every_left}
use Rattle.octets.proofs.Lists.{same_refl, same_true, drop_one, drop_two}
use Rattle.octets.proofs.Tests.{and_left, and_right}
use Rattle.x690.specs.Integer.{integer_of, eight, eight_of}
use Rattle.x690.specs.BitString.{unused, masked}
use Rattle.x690.proofs.Integers.{eight_back, eight_same, integer_fits}
use Rattle.dates.specs.declared.TimeKind.{TimeKind}
use Rattle.dates.specs.declared.TimeKind.TheVariants.{Utc, Generalized}
use Rattle.dates.specs.declared.DateTime.{DateTime}
use Rattle.dates.specs.Calendar.{in_range}
use Rattle.dates.specs.Own.{time_octets, time_at}
use Rattle.dates.proofs.TimeOctets.{time_back}
use Rattle.coding.specs.Value.{Leaf, boolean, integer, bits, string, null, enumerated, time, flag, bit_count, time_number}
use Rattle.coding.specs.Judging.{Node, a_leaf, a_sequence, a_set, a_sequence_of, a_set_of, a_choice, need, flags, own_members, own_count}
use Rattle.coding.specs.Judging.{own_boolean, own_integer, own_string, own_bits, own_enumerated, own_time, own_choice, read_own, read_node, leaf_kind, node_kind}
use Rattle.coding.specs.Shaped.{LeafShaped}

-- the own octets of a node, behind the mark and the kind
unfoldable pub flags_of : List Bool → List ℕ
flags_of [] = []
flags_of (b ∷ bs) = flag b ∷ flags_of bs

unfoldable pub leaf_own : Leaf → List ℕ
leaf_own (boolean b) = flag b ∷ []
leaf_own (integer z) = eight_of z
leaf_own (bits n c) = octets_of (bit_count n c) ++ c
leaf_own (string c) = octets_of (length c) ++ c
leaf_own null = []
leaf_own (enumerated k) = octets_of k
leaf_own (time k t) = time_octets t

unfoldable pub node_own : Node → List ℕ
node_own (a_leaf x) = leaf_own x
node_own (a_sequence bs) = length bs ∷ flags_of bs
node_own (a_set bs) = length bs ∷ flags_of bs
node_own (a_sequence_of n) = octets_of n
node_own (a_set_of n) = octets_of n
node_own (a_choice i) = i ∷ []

abbrev pub node_octets : Node → List ℕ
node_octets x = 0x56 ∷ 0x41 ∷ node_kind x ∷ node_own x

unfoldable pub NodeShaped : Node → Type 0
NodeShaped (a_leaf x) = LeafShaped x
NodeShaped (a_sequence bs) = length bs < 256
NodeShaped (a_set bs) = length bs < 256
NodeShaped (a_sequence_of n) = n < 65536
NodeShaped (a_set_of n) = n < 65536
NodeShaped (a_choice i) = i < 256

-- what stands in two octets

two_back : (k : ℕ) (s : List ℕ) → two (octets_of k ++ s) 0 ≡ k
two_back k s = div-add-mod' k 256

octets_back : (a b : ℕ) → b < 256 → octets_of (a * 256 + b) ≡ a ∷ b ∷ []
octets_back a b h =
    let x : (a * 256 + b) / 256 ≡ a = omega arith in
    let y : (a * 256 + b) % 256 ≡ b = omega arith in
    rw (x, y)

-- enough octets are there

need_yes : {A : Type 0} (l k : ℕ) (s : List ℕ) (x : Unit {0} → Answer JudgingCause A) → k ≤ length s → need l k s x ≡ x tt
unfolding need
need_yes l k s x h = simp (run, le-leb k (length s) h)

need_holds : {A : Type 0} {P : A → List ℕ → Type 0} (l k : ℕ) (s : List ℕ) {x : Unit {0} → Answer JudgingCause A} → (k ≤ length s → (u : Unit {0}) → Holds P (x u)) → Holds P (need l k s x)
unfolding need
need_holds l k s f = if_holds _ (λ e. refuses) λ e. f (leb-true k (length s) (not-false (leb k (length s)) e))

flags_length : (bs : List Bool) → length (flags_of bs) ≡ length bs
unfolding flags_of
flags_length [] = refl
flags_length (b ∷ bs) = ap suc (flags_length bs)

flags_back : (bs : List Bool) → flags (flags_of bs) ≡ bs
unfolding flags_of flags
flags_back [] = refl
flags_back (true ∷ bs) = ap (λ (l : List Bool). true ∷ l) (flags_back bs)
flags_back (false ∷ bs) = ap (λ (l : List Bool). false ∷ l) (flags_back bs)

flags_small : (bs : List Bool) → all (λ b. ltb b 2) (flags_of bs) ≡ true
unfolding flags_of all
flags_small [] = refl
flags_small (true ∷ bs) = flags_small bs
flags_small (false ∷ bs) = flags_small bs

-- what is written is read

read_members : (f : List Bool → Node) (l : ℕ) (bs : List Bool) (r : List ℕ) → own_members f l (length bs ∷ (flags_of bs ++ r)) ≡ got (f bs) r
unfolding own_members
read_members f l bs r =
    let e = flags_length bs in
    let h : length bs ≤ length (flags_of bs ++ r) = simp length-append (omega arith) in
    let t : take (length bs) (flags_of bs ++ r) ≡ flags_of bs = rw (← e) (take-append_seam (flags_of bs) r) in
    let d : drop (length bs) (flags_of bs ++ r) ≡ r = rw (← e) (drop-append_seam (flags_of bs) r) in
    need_yes l 1 (length bs ∷ (flags_of bs ++ r)) _ (omega arith)
    ∙ need_yes l (length bs) (flags_of bs ++ r) _ h
    ∙ simp (run, t, d, flags_small bs, flags_back bs)

read_count : (f : ℕ → Node) (l n : ℕ) (r : List ℕ) → own_count f l (octets_of n ++ r) ≡ got (f n) r
unfolding own_count
read_count f l n r = need_yes l 2 (octets_of n ++ r) _ (omega arith) ∙ ap (λ (k : ℕ). got (f k) r) (two_back n r)

read_boolean : (l : ℕ) (b : Bool) (r : List ℕ) → own_boolean l (flag b ∷ r) ≡ got (a_leaf (boolean b)) r
unfolding own_boolean
read_boolean l true r = need_yes l 1 (1 ∷ r) _ (omega arith) ∙ simp run
read_boolean l false r = need_yes l 1 (0 ∷ r) _ (omega arith) ∙ simp run

eight_length : (z : ℕ) → length (eight z) ≡ 8
unfolding eight
eight_length z = refl

read_integer : (l : ℕ) (r c : List ℕ) → length c ≡ 8 → own_integer l (c ++ r) ≡ got (a_leaf (integer (integer_of c))) r
unfolding own_integer
read_integer l r c e =
    let h : 8 ≤ length (c ++ r) = simp length-append (omega arith) in
    let t : take 8 (c ++ r) ≡ c = rw (← e) (take-append_seam c r) in
    let d : drop 8 (c ++ r) ≡ r = rw (← e) (drop-append_seam c r) in
    need_yes l 8 (c ++ r) _ h ∙ simp (t, d)

read_string : (l : ℕ) (c r : List ℕ) → own_string l ((octets_of (length c) ++ c) ++ r) ≡ got (a_leaf (string c)) r
unfolding own_string
read_string l c r =
    let s = (octets_of (length c) ++ c) ++ r in
    let k : two s 0 ≡ length c = div-add-mod' (length c) 256 in
    let h : length c ≤ length (c ++ r) = simp length-append (omega arith) in
    need_yes l 2 s _ (omega arith)
    ∙ rw k (need_yes l (length c) (c ++ r) _ h ∙ simp (take-append_seam c r, drop-append_seam c r))

unused_small : (n : ℕ) (c : List ℕ) → unused n c ≡ true → ((8 * length c - n + 7) / 8 ≡ length c) × (8 * length c - (8 * length c - n) ≡ n)
unfolding unused
unused_small n [] e = let z : n ≡ 0 = eqb-true n 0 e in rw z (refl, refl)
unused_small n (x ∷ c) e = let z : n < 8 = ltb-true n 8 e in (omega arith, omega arith)

read_bits : (l n : ℕ) (c r : List ℕ) → unused n c ≡ true → masked n c ≡ c → own_bits l ((octets_of (bit_count n c) ++ c) ++ r) ≡ got (a_leaf (bits n c)) r
unfolding own_bits
read_bits l n c r u m =
    let s = (octets_of (bit_count n c) ++ c) ++ r in
    let k : two s 0 ≡ bit_count n c = div-add-mod' (bit_count n c) 256 in
    let (p, q) = unused_small n c u in
    let h : length c ≤ length (c ++ r) = simp length-append (omega arith) in
    need_yes l 2 s _ (omega arith)
    ∙ rw (k, p, q) (need_yes l (length c) (c ++ r) _ h ∙ simp (run, take-append_seam c r, drop-append_seam c r, m, same_refl c))

read_enumerated : (l k : ℕ) (r : List ℕ) → own_enumerated l (octets_of k ++ r) ≡ got (a_leaf (enumerated k)) r
unfolding own_enumerated
read_enumerated l k r = need_yes l 2 (octets_of k ++ r) _ (omega arith) ∙ ap (λ (n : ℕ). got (a_leaf (enumerated n)) r) (two_back k r)

read_time : (l : ℕ) (k : TimeKind) (t : DateTime) (r : List ℕ) → in_range k t ≡ true → own_time k l (time_octets t ++ r) ≡ got (a_leaf (time k t)) r
unfolding own_time time_octets
read_time l k t r e = need_yes l 7 (time_octets t ++ r) _ (omega arith) ∙ simp (run, time_back t r, e)

read_choice : (l i : ℕ) (r : List ℕ) → own_choice l (i ∷ r) ≡ got (a_choice i) r
unfolding own_choice
read_choice l i r = need_yes l 1 (i ∷ r) _ (omega arith)

own_leaf : (l : ℕ) (x : Leaf) (r : List ℕ) → LeafShaped x → read_own l (leaf_kind x) (leaf_own x ++ r) ≡ got (a_leaf x) r
unfolding read_own leaf_kind leaf_own LeafShaped if
own_leaf l (boolean b) r h = read_boolean l b r
own_leaf l (integer z) r h = read_integer l r (eight_of z) (eight_length _) ∙ ap (λ (y : _). got (a_leaf (integer y)) r) (eight_back z h)
own_leaf l (bits n c) r h = read_bits l n c r h.1 h.2
own_leaf l (string c) r h = read_string l c r
own_leaf l null r h = refl
own_leaf l (enumerated k) r h = read_enumerated l k r
own_leaf l (time Utc t) r h = read_time l Utc t r h
own_leaf l (time Generalized t) r h = read_time l Generalized t r h

own_node : (l : ℕ) (x : Node) (r : List ℕ) → NodeShaped x → read_own l (node_kind x) (node_own x ++ r) ≡ got x r
unfolding read_own node_kind node_own NodeShaped if
own_node l (a_leaf x) r h = own_leaf l x r h
own_node l (a_sequence bs) r h = read_members a_sequence l bs r
own_node l (a_set bs) r h = read_members a_set l bs r
own_node l (a_sequence_of n) r h = read_count a_sequence_of l n r
own_node l (a_set_of n) r h = read_count a_set_of l n r
own_node l (a_choice i) r h = read_choice l i r

pub node_complete : (x : Node) (r : List ℕ) → NodeShaped x → read_node (node_octets x ++ r) ≡ got x r
unfolding read_node
node_complete x r h =
    need_yes (length (node_octets x ++ r)) 3 (node_octets x ++ r) _ (omega arith)
    ∙ simp run (own_node (length (node_octets x ++ r)) x r h)

-- what is read stood there

pub record Owned (k : ℕ) (s : List ℕ) (x : Node) (r : List ℕ) : Type 0 where
  pub cut : s ≡ node_own x ++ r
  pub kind : node_kind x ≡ k
  pub shaped : NodeShaped x

head_octet : {a : ℕ} {s : List ℕ} → AllOctets (a ∷ s) → a < 256
head_octet (every_cons h o) = h

tail_octets : {a : ℕ} {s : List ℕ} → AllOctets (a ∷ s) → AllOctets s
tail_octets (every_cons h o) = o

take_octets : (k : ℕ) (s : List ℕ) → AllOctets s → AllOctets (take k s)
take_octets k s o = every_left (take k s) (drop k s) (rw (take-append-drop k s) o)

flag_of : (b : ℕ) → b < 2 → flag (eqb b 1) ≡ b
flag_of zero h = refl
flag_of (suc zero) h = refl
flag_of (suc (suc b)) h = absurd (omega arith)

flags_of_lem : (s : List ℕ) → all (λ b. ltb b 2) s ≡ true → flags_of (flags s) ≡ s
unfolding all flags flags_of
flags_of_lem [] e = refl
flags_of_lem (b ∷ s) e =
    let h = flag_of b (ltb-true b 2 (and_left (ltb b 2) _ e)) in
    let k = flags_of_lem s (and_right (ltb b 2) _ e) in
    rw (h, k)

flags_count : (s : List ℕ) → length (flags s) ≡ length s
unfolding flags
flags_count [] = refl
flags_count (b ∷ s) = ap suc (flags_count s)

members_owned : (k l : ℕ) (f : List Bool → Node) → ((bs : List Bool) → node_own (f bs) ≡ length bs ∷ flags_of bs)
    → ((bs : List Bool) → node_kind (f bs) ≡ k) → ((bs : List Bool) → length bs < 256 → NodeShaped (f bs))
    → (s : List ℕ) → AllOctets s → Holds (Owned k s) (own_members f l s)
unfolding own_members
members_owned k l f own kd sh [] o = need_holds l 1 [] (λ h. absurd (omega arith))
members_owned k l f own kd sh (a ∷ s) o =
    need_holds l 1 (a ∷ s) λ h _.
    need_holds l a s λ g _.
    if_holds _ (λ e. refuses) λ e _.
    let bs = flags (take a s) in
    let n : length (take a s) ≡ a = length-take-le a s g in
    let c : length bs ≡ a = flags_count (take a s) ∙ n in
    let q : flags_of bs ≡ take a s = flags_of_lem (take a s) (not-false _ e) in
    yields (record { cut = sym (ap (λ (l : List ℕ). l ++ drop a s) (own bs) ∙ rw (c, q) (ap (λ (l : List ℕ). a ∷ l) (take-append-drop a s))); kind = kd bs; shaped = sh bs (rw c (head_octet o)) })

count_owned : (k l : ℕ) (f : ℕ → Node) → ((n : ℕ) → node_own (f n) ≡ octets_of n) → ((n : ℕ) → node_kind (f n) ≡ k) → ((n : ℕ) → n < 65536 → NodeShaped (f n))
    → (s : List ℕ) → AllOctets s → Holds (Owned k s) (own_count f l s)
unfolding own_count
count_owned k l f own kd sh [] o = need_holds l 2 [] (λ h. absurd (omega arith))
count_owned k l f own kd sh (a ∷ []) o = need_holds l 2 (a ∷ []) (λ h. absurd (omega arith))
count_owned k l f own kd sh (a ∷ b ∷ s) o =
    need_holds l 2 (a ∷ b ∷ s) λ h _.
    let x = head_octet o in
    let y = head_octet (tail_octets o) in
    yields (record { cut = sym (ap (λ (l : List ℕ). l ++ s) (own (a * 256 + b) ∙ octets_back a b y)); kind = kd (a * 256 + b); shaped = sh (a * 256 + b) (omega arith) })

boolean_owned : (l : ℕ) (s : List ℕ) → Holds (Owned 1 s) (own_boolean l s)
unfolding own_boolean node_own leaf_own node_kind leaf_kind NodeShaped LeafShaped
boolean_owned l [] = need_holds l 1 [] (λ h. absurd (omega arith))
boolean_owned l (b ∷ s) =
    need_holds l 1 (b ∷ s) λ h _.
    if_holds _ (λ e. refuses) λ e _.
    yields (record { cut = ap (λ (x : ℕ). x ∷ s) (sym (flag_of b (ltb-true b 2 (not-false (ltb b 2) e)))); kind = refl; shaped = tt })

integer_owned : (l : ℕ) (s : List ℕ) → AllOctets s → Holds (Owned 2 s) (own_integer l s)
unfolding own_integer node_own leaf_own node_kind leaf_kind NodeShaped LeafShaped
integer_owned l s o =
    need_holds l 8 s λ h _.
    let n : length (take 8 s) ≡ 8 = length-take-le 8 s h in
    let p = take_octets 8 s o in
    yields (record { cut = sym (ap (λ (x : List ℕ). x ++ drop 8 s) (eight_same (take 8 s) p n) ∙ take-append-drop 8 s); kind = refl; shaped = integer_fits (take 8 s) p (omega arith) })

string_owned : (l : ℕ) (s : List ℕ) → AllOctets s → Holds (Owned 4 s) (own_string l s)
unfolding own_string node_own leaf_own node_kind leaf_kind NodeShaped LeafShaped
string_owned l [] o = need_holds l 2 [] (λ h. absurd (omega arith))
string_owned l (a ∷ []) o = need_holds l 2 (a ∷ []) (λ h. absurd (omega arith))
string_owned l (a ∷ b ∷ s) o =
    need_holds l 2 (a ∷ b ∷ s) λ h _.
    need_holds l (a * 256 + b) s λ g _.
    let k = a * 256 + b in
    let n : length (take k s) ≡ k = length-take-le k s g in
    let x = head_octet o in
    let y = head_octet (tail_octets o) in
    let q : octets_of (length (take k s)) ≡ a ∷ b ∷ [] = rw n (octets_back a b y) in
    yields (record {
      cut = sym (ap (λ (x : List ℕ). (x ++ take k s) ++ drop k s) q ∙ ap (λ (l : List ℕ). a ∷ b ∷ l) (take-append-drop k s));
      kind = refl;
      shaped = (take_octets k s (tail_octets (tail_octets o)), rw n (omega arith));
    })

spare_few : (k : ℕ) (c : List ℕ) → length c ≡ (k + 7) / 8 → unused (8 * ((k + 7) / 8) - k) c ≡ true
unfolding unused
spare_few k [] e = let z : 8 * ((k + 7) / 8) - k ≡ 0 = omega arith in eq-eqb (8 * ((k + 7) / 8) - k) 0 z
spare_few k (x ∷ c) e = let z : 8 * ((k + 7) / 8) - k < 8 = omega arith in lt-ltb (8 * ((k + 7) / 8) - k) 8 z

bits_owned : (l : ℕ) (s : List ℕ) → AllOctets s → Holds (Owned 3 s) (own_bits l s)
unfolding own_bits node_own leaf_own node_kind leaf_kind NodeShaped LeafShaped
bits_owned l [] o = need_holds l 2 [] (λ h. absurd (omega arith))
bits_owned l (a ∷ []) o = need_holds l 2 (a ∷ []) (λ h. absurd (omega arith))
bits_owned l (a ∷ b ∷ s) o =
    need_holds l 2 (a ∷ b ∷ s) λ h _.
    need_holds l ((a * 256 + b + 7) / 8) s λ g _.
    if_holds _ (λ e. refuses) λ e _.
    let k = a * 256 + b in
    let j = (k + 7) / 8 in
    let u = 8 * j - k in
    let c = take j s in
    let n : length c ≡ j = length-take-le j s g in
    let x = head_octet o in
    let y = head_octet (tail_octets o) in
    let z : bit_count u c ≡ k = ap (λ (m : ℕ). 8 * m - u) n ∙ count_of k in
    let q : octets_of (bit_count u c) ≡ a ∷ b ∷ [] = ap octets_of z ∙ octets_back a b y in
    yields (record {
      cut = sym (ap (λ (x : List ℕ). (x ++ c) ++ drop j s) q ∙ ap (λ (l : List ℕ). a ∷ b ∷ l) (take-append-drop j s));
      kind = refl;
      shaped = (take_octets j s (tail_octets (tail_octets o)), spare_few k c n, same_true (masked u c) c (not-false (same (masked u c) c) e), small z x y);
    })
  where
    count_of : (k : ℕ) → 8 * ((k + 7) / 8) - (8 * ((k + 7) / 8) - k) ≡ k
    count_of k = omega arith

    small : {n : ℕ} → n ≡ a * 256 + b → a < 256 → b < 256 → n < 65536
    small e h k = omega arith

enumerated_owned : (l : ℕ) (s : List ℕ) → AllOctets s → Holds (Owned 10 s) (own_enumerated l s)
unfolding own_enumerated node_own leaf_own node_kind leaf_kind NodeShaped LeafShaped
enumerated_owned l [] o = need_holds l 2 [] (λ h. absurd (omega arith))
enumerated_owned l (a ∷ []) o = need_holds l 2 (a ∷ []) (λ h. absurd (omega arith))
enumerated_owned l (a ∷ b ∷ s) o =
    need_holds l 2 (a ∷ b ∷ s) λ h _.
    let x = head_octet o in
    let y = head_octet (tail_octets o) in
    yields (record { cut = sym (ap (λ (l : List ℕ). l ++ s) (octets_back a b y)); kind = refl; shaped = omega arith })

seven : (s : List ℕ) → 7 ≤ length s
    → s ≡ get_or s 0 0 ∷ get_or s 1 0 ∷ get_or s 2 0 ∷ get_or s 3 0 ∷ get_or s 4 0 ∷ get_or s 5 0 ∷ get_or s 6 0 ∷ drop 7 s
seven s h = drop_two s 0 (omega arith) ∙ rw (drop_two s 2 (omega arith), drop_two s 4 (omega arith), drop_one s 6 (omega arith))

time_owned : (k : TimeKind) (l : ℕ) (s : List ℕ) → AllOctets s → Holds (Owned (time_number k) s) (own_time k l s)
unfolding own_time node_own leaf_own node_kind leaf_kind NodeShaped LeafShaped time_at time_octets
time_owned k l [] o = need_holds l 7 [] (λ h. absurd (omega arith))
time_owned k l (a ∷ []) o = need_holds l 7 (a ∷ []) (λ h. absurd (omega arith))
time_owned k l (a ∷ b ∷ s) o =
    need_holds l 7 (a ∷ b ∷ s) λ h _.
    if_holds _ (λ e. refuses) λ e _.
    let q = octets_back a b (head_octet (tail_octets o)) in
    let u = get_or s 0 0 ∷ get_or s 1 0 ∷ get_or s 2 0 ∷ get_or s 3 0 ∷ get_or s 4 0 ∷ drop 5 s in
    yields (record { cut = seven (a ∷ b ∷ s) h ∙ sym (ap (λ (x : List ℕ). x ++ u) q); kind = refl; shaped = not-false _ e })

choice_owned : (l : ℕ) (s : List ℕ) → AllOctets s → Holds (Owned 50 s) (own_choice l s)
unfolding own_choice node_own node_kind NodeShaped
choice_owned l [] o = need_holds l 1 [] (λ h. absurd (omega arith))
choice_owned l (a ∷ s) o = need_holds l 1 (a ∷ s) λ h _. yields (record { cut = refl; kind = refl; shaped = head_octet o })

null_owned : (s : List ℕ) → Holds {K = JudgingCause} (Owned 5 s) (got (a_leaf null) s)
unfolding node_own leaf_own node_kind leaf_kind NodeShaped LeafShaped
null_owned s = yields (record { cut = refl; kind = refl; shaped = tt })

of_kind : {j k : ℕ} {s : List ℕ} {x : Answer JudgingCause Node} → eqb k j ≡ true → Holds (Owned j s) x → Holds (Owned k s) x
of_kind {j} {k} e h = map_holds h (λ x r y. record { cut = y.cut; kind = y.kind ∙ sym (eqb-true k j e); shaped = y.shaped })

own_sound : (l k : ℕ) (s : List ℕ) → AllOctets s → Holds (Owned k s) (read_own l k s)
unfolding read_own node_own node_kind NodeShaped
own_sound l k s o =
    if_holds _ (λ e. of_kind e (boolean_owned l s)) λ _ _.
    if_holds _ (λ e. of_kind e (integer_owned l s o)) λ _ _.
    if_holds _ (λ e. of_kind e (bits_owned l s o)) λ _ _.
    if_holds _ (λ e. of_kind e (string_owned l s o)) λ _ _.
    if_holds _ (λ e. of_kind e (null_owned s)) λ _ _.
    if_holds _ (λ e. of_kind e (enumerated_owned l s o)) λ _ _.
    if_holds _ (λ e. of_kind e (time_owned Utc l s o)) λ _ _.
    if_holds _ (λ e. of_kind e (time_owned Generalized l s o)) λ _ _.
    if_holds _ (λ e. of_kind e (members_owned 16 l a_sequence (λ bs. refl) (λ bs. refl) (λ bs h. h) s o)) λ _ _.
    if_holds _ (λ e. of_kind e (members_owned 17 l a_set (λ bs. refl) (λ bs. refl) (λ bs h. h) s o)) λ _ _.
    if_holds _ (λ e. of_kind e (count_owned 48 l a_sequence_of (λ n. refl) (λ n. refl) (λ n h. h) s o)) λ _ _.
    if_holds _ (λ e. of_kind e (count_owned 49 l a_set_of (λ n. refl) (λ n. refl) (λ n h. h) s o)) λ _ _.
    if_holds _ (λ e. of_kind e (choice_owned l s o)) λ _ _. refuses

pub node_sound : (s : List ℕ) → AllOctets s → Holds (λ x r. (s ≡ node_octets x ++ r) × NodeShaped x) (read_node s)
unfolding read_node
node_sound [] o = need_holds 0 3 [] (λ h. absurd (omega arith))
node_sound (a ∷ []) o = need_holds 1 3 (a ∷ []) (λ h. absurd (omega arith))
node_sound (a ∷ b ∷ []) o = need_holds 2 3 (a ∷ b ∷ []) (λ h. absurd (omega arith))
node_sound (a ∷ b ∷ k ∷ s) o =
    need_holds (suc (suc (suc (length s)))) 3 (a ∷ b ∷ k ∷ s) λ h _.
    if_holds _ (λ e. refuses) λ e _.
    if_holds _ (λ f. refuses) λ f _.
    let x : a ≡ 0x56 = eqb-true a 0x56 (not-false (eqb a 0x56) e) in
    let y : b ≡ 0x41 = eqb-true b 0x41 (not-false (eqb b 0x41) f) in
    map_holds (own_sound (suc (suc (suc (length s)))) k s (tail_octets (tail_octets (tail_octets o)))) λ n r z.
    (rw (x, y, z.kind) (ap (λ (l : List ℕ). 0x56 ∷ 0x41 ∷ k ∷ l) z.cut), z.shaped)
