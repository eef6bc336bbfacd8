-- Octets are judged to be a value of a type exactly when they are the octets of one; and a tree has one octet form.
-- Assumes nothing.
use borrow.Author.Tests.{ltb-true, lt-ltb, eqb-true, not-false}
use mathlib.Core.Bool.{Bool, true, false, false≢true}
use mathlib.Core.List.{List, [], ◌∷◌, ◌++◌, append_assoc, append-nil}
use mathlib.Core.Option.{Option, some, none}
use mathlib.Core.Path.{◌≡◌, refl, sym, ap, subst, ◌∙◌}
use native.Mathlib.Omega.{arith}
use Prim.Native.Nat.{ℕ, zero, suc, ◌<◌}
use lib.Dec.{eqb}
use lib.ListN.{length, get_or}
use lib.Seq.{append_snoc}
use Rattle.coding.specs.declared.JudgingCause.{JudgingCause}
use Rattle.octets.specs.Answer.{Answer, got, none_left}
use Rattle.octets.specs.Numbers.{octets_of}
use Rattle.octets.specs.Permutations.{Every, every_nil, every_cons, AllOctets}
use Rattle.octets.proofs.Answer.{run, Holds, yields, refuses, if_holds, then_holds, map_holds, none_there}
use Rattle.octets.proofs.Permutations.{every_right}
use Rattle.octets.proofs.Tests.{and_left, and_right}
use Rattle.dates.specs.declared.TimeKind.TheVariants.{Utc, Generalized}
use Rattle.table.specs.Syntax.{Member, Simple, Boolean, Integer, BitString, OctetString, Null, Enumerated, Time, Body, Plain, Sequence, Set, SequenceOf, SetOf, Choice, Table}
use Rattle.table.specs.Octets.{kind}
use Rattle.table.specs.Rules.{members}
use Rattle.coding.specs.Value.{Leaf, boolean, integer, bits, string, null, enumerated, time, Value, leaf, sequence, set, sequence_of, set_of, choice}
use Rattle.coding.specs.Value.{Slots, end, missing, present, slots, bag, leaf_octets, count, presence, octets, slot_octets}
use Rattle.coding.specs.Content.{listed}
use Rattle.coding.specs.Typed.{TypedLeaf, l_boolean, l_integer, l_bits, l_string, l_null, l_enumerated, l_time, MembersTyped, f_done, f_left, f_sent, Typed}
use Rattle.coding.specs.Typed.{t_plain, t_sequence, t_set, t_sequence_of, t_set_of, t_choice, WellTypedAt}
use Rattle.coding.specs.Encodes.{allowed, At, first, later}
use Rattle.coding.specs.Form.{element, alternatives}
use Rattle.coding.specs.Judging.{Node, a_leaf, a_sequence, a_set, a_sequence_of, a_set_of, a_choice, read_node, leaf_kind, node_kind, numbers}
use Rattle.coding.specs.Judging.{leaf_agrees, agreeing, counts, agrees, judge_members, judge_elements, judge_below, judge_value, judge_whole}
use Rattle.coding.specs.Shaped.{LeafShaped, Whole, Shaped, AllShaped}
use Rattle.coding.proofs.Form.{at_index}
use Rattle.coding.proofs.Nodes.{flags_of, leaf_own, node_own, node_octets, NodeShaped, node_sound, node_complete}

-- the body of a kind
abbrev choose : Bool → Type 0 → Type 0 → Type 0
choose true A B = A
choose false A B = B

abbrev Is : ℕ → Body → Type 0
Is k b =
    choose (eqb k 1) (b ≡ Plain Boolean)
    (choose (eqb k 2) (b ≡ Plain Integer)
    (choose (eqb k 3) (b ≡ Plain BitString)
    (choose (eqb k 4) (b ≡ Plain OctetString)
    (choose (eqb k 5) (b ≡ Plain Null)
    (choose (eqb k 10) ((x : List ℕ) × (b ≡ Plain (Enumerated x)))
    (choose (eqb k 23) (b ≡ Plain (Time Utc))
    (choose (eqb k 24) (b ≡ Plain (Time Generalized))
    (choose (eqb k 16) ((x : List Member) × (b ≡ Sequence x))
    (choose (eqb k 17) ((x : List Member) × (b ≡ Set x))
    (choose (eqb k 48) ((x : ℕ) × (b ≡ SequenceOf x))
    (choose (eqb k 49) ((x : ℕ) × (b ≡ SetOf x))
    ((x : List ℕ) × (b ≡ Choice x)))))))))))))

is : (b : Body) → Is (kind b) b
unfolding kind
is (Plain Boolean) = refl
is (Plain Integer) = refl
is (Plain BitString) = refl
is (Plain OctetString) = refl
is (Plain Null) = refl
is (Plain (Enumerated x)) = (x, refl)
is (Plain (Time Utc)) = refl
is (Plain (Time Generalized)) = refl
is (Sequence x) = (x, refl)
is (Set x) = (x, refl)
is (SequenceOf x) = (x, refl)
is (SetOf x) = (x, refl)
is (Choice x) = (x, refl)

of_kind : (b : Body) (k : ℕ) → eqb k (kind b) ≡ true → Is k b
of_kind b k e = subst (λ (j : ℕ). Is j b) (sym (eqb-true k (kind b) e)) (is b)

pub leaf_octets_lem : (x : Leaf) → leaf_octets x ≡ node_octets (a_leaf x)
unfolding leaf_octets node_kind leaf_kind node_own leaf_own
leaf_octets_lem (boolean b) = refl
leaf_octets_lem (integer z) = refl
leaf_octets_lem (bits n c) = refl
leaf_octets_lem (string c) = refl
leaf_octets_lem null = refl
leaf_octets_lem (enumerated k) = refl
leaf_octets_lem (time k t) = refl

at_place : (ts : List ℕ) (i : ℕ) → i < length ts → At (get_or ts i 0) ts i
at_place [] i h = absurd (omega arith)
at_place (t ∷ ts) zero h = first
at_place (t ∷ ts) (suc i) h = later (at_place ts i (omega arith))

listed_in : (b : Body) (ns : List ℕ) (k : ℕ) → b ≡ Plain (Enumerated ns) → listed (numbers b) k ≡ true → listed ns k ≡ true
unfolding numbers
listed_in b ns k q e = rw q at e

leaf_typed : (b : Body) (x : Leaf) → eqb (leaf_kind x) (kind b) ≡ true → leaf_agrees b x ≡ true → LeafShaped x → (k : Simple) × (b ≡ Plain k) × TypedLeaf k x
unfolding leaf_kind leaf_agrees LeafShaped
leaf_typed b (boolean x) e a h = (Boolean, of_kind b 1 e, l_boolean)
leaf_typed b (integer z) e a h = (Integer, of_kind b 2 e, l_integer h)
leaf_typed b (bits n c) e a h = (BitString, of_kind b 3 e, l_bits h.0 h.1 h.2)
leaf_typed b (string c) e a h = (OctetString, of_kind b 4 e, l_string h.0)
leaf_typed b null e a h = (Null, of_kind b 5 e, l_null)
leaf_typed b (enumerated k) e a h =
    let (ns, q) = of_kind b 10 e in
    (Enumerated ns, q, l_enumerated {k = k} (record { sfits = omega arith }) (listed_in b ns k q a))
leaf_typed b (time Utc t) e a h = (Time Utc, of_kind b 23 e, l_time h)
leaf_typed b (time Generalized t) e a h = (Time Generalized, of_kind b 24 e, l_time h)

-- what is judged stood there

pub record Judged (W : ℕ → Value → Type 0) (t : ℕ) (s : List ℕ) (v : Value) (u : List ℕ) : Type 0 where
  pub cut : s ≡ octets v ++ u
  pub typed : W t v
  pub shaped : Shaped v

record JudgedMembers (W : ℕ → Value → Type 0) (ms : List Member) (bs : List Bool) (acc : List (Option Value)) (s : List ℕ) (os : List (Option Value)) (u : List ℕ) : Type 0 where
  new : List (Option Value)
  is : os ≡ acc ++ new
  cut : s ≡ slot_octets (slots new) ++ u
  flags : presence (slots new) ≡ flags_of bs
  counted : count (slots new) ≡ length bs
  fits : MembersTyped W ms new
  allowed : allowed ms new ≡ true
  shaped : AllShaped (slots new)

record JudgedElements (W : ℕ → Value → Type 0) (t n : ℕ) (acc : List Value) (s : List ℕ) (vs : List Value) (u : List ℕ) : Type 0 where
  new : List Value
  is : vs ≡ acc ++ new
  cut : s ≡ slot_octets (bag new) ++ u
  counted : count (bag new) ≡ n
  every : Every (W t) new
  whole : Whole (bag new)
  shaped : AllShaped (bag new)

spliced : {s s₁ : List ℕ} (a p u : List ℕ) → s ≡ a ++ s₁ → s₁ ≡ p ++ u → s ≡ (a ++ p) ++ u
spliced a p u e f = e ∙ ap (λ (l : List ℕ). a ++ l) f ∙ sym (append_assoc a p u)

module _ (W : ℕ → Value → Type 0) (r : ℕ → List ℕ → Answer JudgingCause Value) (sound : (t : ℕ) (s : List ℕ) → AllOctets s → Holds (Judged W t s) (r t s)) where
  members_sound : (ms : List Member) (bs : List Bool) (acc : List (Option Value)) (s : List ℕ) → AllOctets s → agreeing ms bs ≡ true → Holds (JudgedMembers W ms bs acc s) (judge_members r ms bs acc s)
  unfolding judge_members agreeing slots octets presence flags_of count allowed AllShaped
  members_sound [] [] acc s o e = yields (record { new = []; is = sym (append-nil acc); cut = refl; flags = refl; counted = refl; fits = f_done; allowed = refl; shaped = tt })
  members_sound [] (b ∷ bs) acc s o e = absurd (false≢true e)
  members_sound (m ∷ ms) [] acc s o e = absurd (false≢true e)
  members_sound (m ∷ ms) (true ∷ bs) acc s o e =
      then_holds (sound m.type s o) λ v s₁ x.
      map_holds (members_sound ms bs (acc ++ (some v ∷ [])) s₁ (every_right (octets v) (rw x.cut at o)) e) λ os u y.
      record {
        new = some v ∷ y.new;
        is = y.is ∙ append_snoc acc (some v) y.new;
        cut = spliced (octets v) (slot_octets (slots y.new)) u x.cut y.cut;
        flags = ap (λ (l : List ℕ). 1 ∷ l) y.flags;
        counted = ap suc y.counted;
        fits = f_sent x.typed y.fits;
        allowed = y.allowed;
        shaped = (x.shaped, y.shaped);
      }
  members_sound (m ∷ ms) (false ∷ bs) acc s o e =
      map_holds (members_sound ms bs (acc ++ (none ∷ [])) s o (and_right m.optional _ e)) λ os u y.
      let op : m.optional ≡ true = and_left m.optional _ e in
      let al = y.allowed in
      record {
        new = none ∷ y.new;
        is = y.is ∙ append_snoc acc none y.new;
        cut = y.cut;
        flags = ap (λ (l : List ℕ). 0 ∷ l) y.flags;
        counted = ap suc y.counted;
        fits = f_left y.fits;
        allowed = rw op al;
        shaped = y.shaped;
      }

  elements_sound : (n t : ℕ) (acc : List Value) (s : List ℕ) → AllOctets s → Holds (JudgedElements W t n acc s) (judge_elements r n t acc s)
  unfolding judge_elements bag octets count Whole AllShaped
  elements_sound zero t acc s o = yields (record { new = []; is = sym (append-nil acc); cut = refl; counted = refl; every = every_nil; whole = tt; shaped = tt })
  elements_sound (suc n) t acc s o =
      then_holds (sound t s o) λ v s₁ x.
      map_holds (elements_sound n t (acc ++ (v ∷ [])) s₁ (every_right (octets v) (rw x.cut at o))) λ vs u y.
      record {
        new = v ∷ y.new;
        is = y.is ∙ append_snoc acc v y.new;
        cut = spliced (octets v) (slot_octets (bag y.new)) u x.cut y.cut;
        counted = ap suc y.counted;
        every = every_cons x.typed y.every;
        whole = y.whole;
        shaped = (x.shaped, y.shaped);
      }

  members_octets : (k : ℕ) {ms : List Member} {bs : List Bool} {s u : List ℕ} {os : List (Option Value)} → JudgedMembers W ms bs [] s os u
      → 0x56 ∷ 0x41 ∷ k ∷ length bs ∷ (flags_of bs ++ s) ≡ 0x56 ∷ 0x41 ∷ k ∷ count (slots os) ∷ ((presence (slots os) ++ slot_octets (slots os)) ++ u)
  members_octets k {bs = bs} {u = u} y =
      let q = y.is in
      let a = y.counted in
      let b = y.flags in
      let c = y.cut in
      rw (q, a, b, c, append_assoc (flags_of bs) (slot_octets (slots y.new)) u)

  elements_octets : (k : ℕ) {t n : ℕ} {s u : List ℕ} {vs : List Value} → JudgedElements W t n [] s vs u
      → 0x56 ∷ 0x41 ∷ k ∷ (octets_of n ++ s) ≡ 0x56 ∷ 0x41 ∷ k ∷ ((octets_of (count (bag vs)) ++ slot_octets (bag vs)) ++ u)
  elements_octets k y =
      let q = y.is in
      let a = y.counted in
      let c = y.cut in
      rw (q, a, c)

  typed_sequence : (b : Body) (ms : List Member) {os : List (Option Value)} → b ≡ Sequence ms → MembersTyped W (members b) os → allowed (members b) os ≡ true → Typed W b (sequence (slots os))
  unfolding members
  typed_sequence b ms q f a = rw q (t_sequence (rw q at f) (rw q at a))

  typed_set : (b : Body) (ms : List Member) {os : List (Option Value)} → b ≡ Set ms → MembersTyped W (members b) os → allowed (members b) os ≡ true → Typed W b (set (slots os))
  unfolding members
  typed_set b ms q f a = rw q (t_set (rw q at f) (rw q at a))

  typed_sequence_of : (b : Body) (t : ℕ) {vs : List Value} → b ≡ SequenceOf t → Every (W (element b)) vs → Typed W b (sequence_of (bag vs))
  unfolding element
  typed_sequence_of b t q f = rw q (t_sequence_of (rw q at f))

  typed_set_of : (b : Body) (t : ℕ) {vs : List Value} → b ≡ SetOf t → Every (W (element b)) vs → Typed W b (set_of (bag vs))
  unfolding element
  typed_set_of b t q f = rw q (t_set_of (rw q at f))

  typed_choice : (b : Body) (ts : List ℕ) (i : ℕ) {v : Value} → b ≡ Choice ts → i < length (alternatives b) → W (get_or (alternatives b) i 0) v → Typed W b (choice i v)
  unfolding alternatives
  typed_choice b ts i {v} q h w = rw q (t_choice {t = get_or ts i 0} (at_place ts i (rw q at h)) (rw q at w))

  -- what stands below a node, put behind it, is the octets of a value with that node
  pub record Below (b : Body) (x : Node) (s : List ℕ) (v : Value) (u : List ℕ) : Type 0 where
    pub cut : node_octets x ++ s ≡ octets v ++ u
    pub typed : Typed W b v
    pub shaped : Shaped v

  pub below_sound : (b : Body) (x : Node) (s : List ℕ) → AllOctets s → agrees b x ≡ true → NodeShaped x → Holds (Below b x s) (judge_below r b x s)
  unfolding judge_below agrees counts node_kind node_own NodeShaped octets Shaped
  below_sound b (a_leaf x) s o e h =
      let (k, q, l) = leaf_typed b x (and_left (eqb (leaf_kind x) (kind b)) _ e) (and_right (eqb (leaf_kind x) (kind b)) _ e) h in
      yields {a = leaf x} (record { cut = ap (λ (l : List ℕ). l ++ s) (sym (leaf_octets_lem x)); typed = rw q (t_plain l); shaped = h })
  below_sound b (a_sequence bs) s o e h =
      let (ms, q) = of_kind b 16 (and_left (eqb 16 (kind b)) _ e) in
      then_holds (members_sound (members b) bs [] s o (and_right (eqb 16 (kind b)) _ e)) λ os u y.
      let z = y.is in
      let f = y.fits in
      let a = y.allowed in
      let g = y.shaped in
      let c = y.counted in
      yields {a = sequence (slots os)} (record { cut = members_octets 16 y; typed = rw z (typed_sequence b ms q f a); shaped = rw z (rw c h, g) })
  below_sound b (a_set bs) s o e h =
      let (ms, q) = of_kind b 17 (and_left (eqb 17 (kind b)) _ e) in
      then_holds (members_sound (members b) bs [] s o (and_right (eqb 17 (kind b)) _ e)) λ os u y.
      let z = y.is in
      let f = y.fits in
      let a = y.allowed in
      let g = y.shaped in
      let c = y.counted in
      yields {a = set (slots os)} (record { cut = members_octets 17 y; typed = rw z (typed_set b ms q f a); shaped = rw z (rw c h, g) })
  below_sound b (a_sequence_of n) s o e h =
      let (t, q) = of_kind b 48 (and_left (eqb 48 (kind b)) _ e) in
      then_holds (elements_sound n (element b) [] s o) λ vs u y.
      let z = y.is in
      let f = y.every in
      let g = y.shaped in
      let w = y.whole in
      let c = y.counted in
      yields {a = sequence_of (bag vs)} (record { cut = elements_octets 48 y; typed = rw z (typed_sequence_of b t q f); shaped = rw z (rw c h, w, g) })
  below_sound b (a_set_of n) s o e h =
      let (t, q) = of_kind b 49 (and_left (eqb 49 (kind b)) _ e) in
      then_holds (elements_sound n (element b) [] s o) λ vs u y.
      let z = y.is in
      let f = y.every in
      let g = y.shaped in
      let w = y.whole in
      let c = y.counted in
      yields {a = set_of (bag vs)} (record { cut = elements_octets 49 y; typed = rw z (typed_set_of b t q f); shaped = rw z (rw c h, w, g) })
  below_sound b (a_choice i) s o e h =
      let (ts, q) = of_kind b 50 (and_left (eqb 50 (kind b)) _ e) in
      then_holds (sound (get_or (alternatives b) i 0) s o) λ v u y.
      yields {a = choice i v} (record {
        cut = ap (λ (l : List ℕ). 0x56 ∷ 0x41 ∷ 50 ∷ i ∷ l) y.cut;
        typed = typed_choice b ts i q (ltb-true i (length (alternatives b)) (and_right (eqb 50 (kind b)) _ e)) y.typed;
        shaped = (h, y.shaped);
      })

-- what judging accepts is the octets of a value of the type, and then the rest
pub judge_sound : (T : Table) (n t : ℕ) (s : List ℕ) → AllOctets s → Holds (Judged (WellTypedAt T n) t s) (judge_value T n t s)
unfolding judge_value WellTypedAt
judge_sound T zero t s o = then_holds (node_sound s o) λ x s₁ h. refuses
judge_sound T (suc n) t s o =
    then_holds (node_sound s o) λ x s₁ h.
    if_holds _ (λ e. refuses) λ e _.
    map_holds (below_sound (WellTypedAt T n) (λ u w. judge_value T n u w) (judge_sound T n) (T t).body x s₁ (every_right (node_octets x) (rw
    h.0 at o)) (not-false (agrees (T t).body x) e) h.1) λ v u y.
    record { cut = h.0 ∙ y.cut; typed = y.typed; shaped = y.shaped }

-- what stands there is judged

unfoldable pub present_of : Slots → List Bool
present_of end = []
present_of (missing s) = false ∷ present_of s
present_of (present v s) = true ∷ present_of s

presence_flags : (s : Slots) → presence s ≡ flags_of (present_of s)
unfolding presence present_of flags_of
presence_flags end = refl
presence_flags (missing s) = ap (λ (l : List ℕ). 0 ∷ l) (presence_flags s)
presence_flags (present v s) = ap (λ (l : List ℕ). 1 ∷ l) (presence_flags s)

presence_count : (s : Slots) → count s ≡ length (present_of s)
unfolding count present_of
presence_count end = refl
presence_count (missing s) = ap suc (presence_count s)
presence_count (present v s) = ap suc (presence_count s)

allowed_agreeing : (ms : List Member) (os : List (Option Value)) → allowed ms os ≡ true → agreeing ms (present_of (slots os)) ≡ true
unfolding allowed agreeing present_of slots
allowed_agreeing [] [] e = refl
allowed_agreeing [] (none ∷ os) e = absurd (false≢true e)
allowed_agreeing [] (some v ∷ os) e = absurd (false≢true e)
allowed_agreeing (m ∷ ms) [] e = absurd (false≢true e)
allowed_agreeing (m ∷ ms) (none ∷ os) e = let op : m.optional ≡ true = and_left m.optional _ e in rw op (allowed_agreeing ms os (and_right m.optional _ e))
allowed_agreeing (m ∷ ms) (some v ∷ os) e = allowed_agreeing ms os e

-- the node of a value
unfoldable pub node_of : Value → Node
node_of (leaf x) = a_leaf x
node_of (sequence s) = a_sequence (present_of s)
node_of (set s) = a_set (present_of s)
node_of (sequence_of s) = a_sequence_of (count s)
node_of (set_of s) = a_set_of (count s)
node_of (choice i v) = a_choice i

leaf_agrees_lem : {k : Simple} {x : Leaf} → TypedLeaf k x → agrees (Plain k) (a_leaf x) ≡ true
unfolding agrees node_kind leaf_kind kind counts leaf_agrees numbers
leaf_agrees_lem l_boolean = refl
leaf_agrees_lem (l_integer f) = refl
leaf_agrees_lem (l_bits o u m) = refl
leaf_agrees_lem (l_string o) = refl
leaf_agrees_lem l_null = refl
leaf_agrees_lem (l_enumerated f g) = g
leaf_agrees_lem (l_time {k = Utc} e) = refl
leaf_agrees_lem (l_time {k = Generalized} e) = refl

sequence_octets : (k : ℕ) (p : Slots) (s : List ℕ)
    → (0x56 ∷ 0x41 ∷ k ∷ count p ∷ (presence p ++ slot_octets p)) ++ s ≡ (0x56 ∷ 0x41 ∷ k ∷ length (present_of p) ∷ flags_of (present_of p)) ++ (slot_octets p ++ s)
sequence_octets k p s = rw (presence_count p, presence_flags p, append_assoc (flags_of (present_of p)) (slot_octets p) s)

count_small : (p : Slots) → count p < 256 → length (present_of p) < 256
count_small p h = rw (← presence_count p) h

at_below : {t n : ℕ} {ts : List ℕ} → At t ts n → n < length ts
at_below first = omega arith
at_below (later a) = let h = at_below a in omega arith

module _ (W : ℕ → Value → Type 0) (r : ℕ → List ℕ → Answer JudgingCause Value) (reads : (t : ℕ) (v : Value) (s : List ℕ) → W t v → Shaped v → r t (octets v ++ s) ≡ got v s) where
  members_judged : {ms : List Member} {os : List (Option Value)} (acc : List (Option Value)) (s : List ℕ) → MembersTyped W ms os → AllShaped (slots os)
      → judge_members r ms (present_of (slots os)) acc (slot_octets (slots os) ++ s) ≡ got (acc ++ os) s
  unfolding judge_members present_of slots octets AllShaped
  members_judged acc s f_done h = rw append-nil
  members_judged acc s (f_left {os = os} f) h = members_judged (acc ++ (none ∷ [])) s f h ∙ rw append_snoc
  members_judged acc s (f_sent {m = m} {os = os} {v = v} w f) h =
      rw (append_assoc (octets v) (slot_octets (slots os)) s, reads m.type v (slot_octets (slots os) ++ s) w h.0)
      (simp run (members_judged (acc ++ (some v ∷ [])) s f h.1 ∙ rw append_snoc))

  elements_judged : {t : ℕ} {vs : List Value} (acc : List Value) (s : List ℕ) → Every (W t) vs → AllShaped (bag vs)
      → judge_elements r (count (bag vs)) t acc (slot_octets (bag vs) ++ s) ≡ got (acc ++ vs) s
  unfolding judge_elements bag count octets AllShaped
  elements_judged acc s every_nil h = rw append-nil
  elements_judged {t} acc s (every_cons {x = v} {l = vs} w f) h =
      rw (append_assoc (octets v) (slot_octets (bag vs)) s, reads t v (slot_octets (bag vs) ++ s) w h.0)
      (simp run (elements_judged (acc ++ (v ∷ [])) s f h.1 ∙ rw append_snoc))

  -- the node is read, agrees, and the value is judged below it
  pub record Seen (b : Body) (v : Value) (s : List ℕ) : Type 0 where
    pub rest : List ℕ
    pub reading : read_node (octets v ++ s) ≡ got (node_of v) rest
    pub agreed : agrees b (node_of v) ≡ true
    pub below : judge_below r b (node_of v) rest ≡ got v s

  pub seen : (b : Body) (v : Value) (s : List ℕ) → Typed W b v → Shaped v → Seen b v s
  unfolding octets Shaped NodeShaped node_of node_kind node_own agrees counts kind members element alternatives judge_below
  seen b v s (t_plain {x = x} l) h =
      record { rest = s; reading = ap (λ (l : List ℕ). read_node (l ++ s)) (leaf_octets_lem x) ∙ node_complete (a_leaf x) s h; agreed = leaf_agrees_lem l; below = refl }
  seen b v s (t_sequence {ms = ms} {os = os} f a) h =
      record {
        rest = slot_octets (slots os) ++ s;
        reading = ap read_node (sequence_octets 16 (slots os) s) ∙ node_complete (a_sequence (present_of (slots os))) (slot_octets (slots os) ++ s) (count_small (slots os) h.0);
        agreed = allowed_agreeing ms os a;
        below = rw (members_judged [] s f h.1) (simp run);
      }
  seen b v s (t_set {ms = ms} {os = os} f a) h =
      record {
        rest = slot_octets (slots os) ++ s;
        reading = ap read_node (sequence_octets 17 (slots os) s) ∙ node_complete (a_set (present_of (slots os))) (slot_octets (slots os) ++ s) (count_small (slots os) h.0);
        agreed = allowed_agreeing ms os a;
        below = rw (members_judged [] s f h.1) (simp run);
      }
  seen b v s (t_sequence_of {t = t} {vs = vs} f) h =
      record {
        rest = slot_octets (bag vs) ++ s;
        reading = node_complete (a_sequence_of (count (bag vs))) (slot_octets (bag vs) ++ s) h.0;
        agreed = refl;
        below = rw (elements_judged [] s f h.2) (simp run);
      }
  seen b v s (t_set_of {t = t} {vs = vs} f) h =
      record {
        rest = slot_octets (bag vs) ++ s;
        reading = node_complete (a_set_of (count (bag vs))) (slot_octets (bag vs) ++ s) h.0;
        agreed = refl;
        below = rw (elements_judged [] s f h.2) (simp run);
      }
  seen b v s (t_choice {ts = ts} {n = i} {t = t} {v = c} a w) h =
      let e : get_or ts i 0 ≡ t = at_index a in
      record {
        rest = octets c ++ s;
        reading = node_complete (a_choice i) (octets c ++ s) h.0;
        agreed = lt-ltb i (length ts) (at_below a);
        below = rw (e, reads t c s w h.1) (simp run);
      }

-- the octets of a value of the type, with its counts, are judged to be that value, whatever follows
pub judge_complete : (T : Table) (n t : ℕ) (v : Value) (s : List ℕ) → WellTypedAt T n t v → Shaped v → judge_value T n t (octets v ++ s) ≡ got v s
unfolding judge_value WellTypedAt
judge_complete T zero t v s w h = absurd w
judge_complete T (suc n) t v s w h =
    let x = seen (WellTypedAt T n) (λ u w. judge_value T n u w) (λ t v s. judge_complete T n t v s) (T t).body v s w h in
    simp (run, x.reading, x.agreed, x.below)

-- what judging the whole accepts is the octets of a value of the type, and nothing more
pub judge_whole_lem : (T : Table) (n t : ℕ) (b : List ℕ) → AllOctets b → Holds (λ v r. (r ≡ []) × (b ≡ octets v) × WellTypedAt T n t v × Shaped v) (judge_whole T n t b)
unfolding judge_whole
judge_whole_lem T n t b o =
    then_holds (judge_sound T n t b o) λ v r x.
    if_holds _ (λ e. refuses) λ e _.
    let z : r ≡ [] = none_there r (not-false (none_left r) e) in
    yields (z, x.cut ∙ ap (λ (l : List ℕ). octets v ++ l) z ∙ append-nil (octets v), x.typed, x.shaped)

pub judge_octets : (T : Table) (n t : ℕ) (v : Value) → WellTypedAt T n t v → Shaped v → judge_whole T n t (octets v) ≡ got v []
unfolding judge_whole
judge_octets T n t v w h =
    let x : judge_value T n t (octets v) ≡ got v [] = rw append-nil at (judge_complete T n t v [] w h) in
    simp (run, x)
