-- The shape of a value alone: octets are shaped exactly when they are the form of a tree, and a tree has one form.
-- Assumes nothing.
use borrow.Author.Tests.{lt-ltb, eq-eqb, not-false}
use mathlib.Core.Bool.{Bool, true, false, not}
use mathlib.Core.List.{List, [], ◌∷◌, ◌++◌, append-nil}
use mathlib.Core.Option.{Option, some, none}
use mathlib.Core.Logic.{◌↔◌}
use mathlib.Core.Path.{◌≡◌, refl, sym, ap, ◌∙◌}
use native.Mathlib.Omega.{arith}
use Prim.Native.Nat.{ℕ, zero, suc, ◌≤◌}
use lib.ListN.{length, length-append}
use Rattle.coding.specs.declared.JudgingCause.{JudgingCause}
use Rattle.coding.specs.declared.JudgingCause.TheVariants.{ValueShape}
use Rattle.octets.specs.Answer.{Answer, got, none_left, refused, then, if}
use Rattle.octets.specs.Numbers.{Octets}
use Rattle.octets.specs.Lists.{any}
use Rattle.octets.specs.Permutations.{Every, every_nil, every_cons, AllOctets}
use Rattle.octets.proofs.Answer.{none_there, run, Holds, yields, refuses, if_holds, then_holds, map_holds, got_holds, got_value}
use Rattle.octets.proofs.Permutations.{every_right, all_octets}
use Rattle.dates.specs.declared.TimeKind.TheVariants.{Utc, Generalized}
use Rattle.table.specs.Syntax.{Member, Simple, Boolean, Integer, BitString, OctetString, Null, Enumerated, Time, Body, Plain, Sequence, Set, SequenceOf, SetOf, Choice}
use Rattle.table.specs.Octets.{kind}
use Rattle.table.specs.Rules.{members}
use Rattle.coding.specs.Value.{Leaf, boolean, integer, bits, string, null, enumerated, time, Value, leaf, sequence, set, sequence_of, set_of, choice}
use Rattle.coding.specs.Value.{Slots, end, missing, present, slots, bag, leaf_octets, presence, octets, slot_octets, depth, depths}
use Rattle.coding.specs.Content.{listed}
use Rattle.coding.specs.Typed.{TypedLeaf, l_boolean, l_integer, l_bits, l_string, l_null, l_enumerated, l_time, MembersTyped, f_done, f_left, f_sent, Typed}
use Rattle.coding.specs.Typed.{t_plain, t_sequence, t_set, t_sequence_of, t_set_of, t_choice}
use Rattle.coding.specs.Encodes.{allowed, At, first, later}
use Rattle.coding.specs.Form.{alternatives}
use Rattle.coding.specs.Judging.{Node, a_leaf, a_sequence, a_set, a_sequence_of, a_set_of, a_choice, read_node, leaf_kind, node_kind, numbers, leaf_agrees, agreeing, counts, agrees, judge_below}
use Rattle.coding.specs.Shaped.{LeafShaped, Whole, Shaped}
use Rattle.coding.proofs.Levels.{shallow}
use Rattle.coding.proofs.Judging.{Judged, below_sound, present_of, node_of, seen}
use Rattle.coding.proofs.Nodes.{node_octets, node_sound}

-- The shape alone: the same, with a body that agrees with any node.
unfoldable pub any_members : List Bool → List Member
any_members [] = []
any_members (b ∷ bs) = record { type = 0; optional = true } ∷ any_members bs

unfoldable pub any_simple : Leaf → Simple
any_simple (boolean b) = Boolean
any_simple (integer z) = Integer
any_simple (bits n c) = BitString
any_simple (string c) = OctetString
any_simple null = Null
any_simple (enumerated k) = Enumerated (k ∷ [])
any_simple (time k t) = Time k

unfoldable pub zeros : ℕ → List ℕ
zeros zero = 0 ∷ []
zeros (suc i) = 0 ∷ zeros i

unfoldable pub any_body : Node → Body
any_body (a_leaf x) = Plain (any_simple x)
any_body (a_sequence bs) = Sequence (any_members bs)
any_body (a_set bs) = Set (any_members bs)
any_body (a_sequence_of n) = SequenceOf 0
any_body (a_set_of n) = SetOf 0
any_body (a_choice i) = Choice (zeros i)

-- a tree of at most n levels
unfoldable pub shape_value : ℕ → List ℕ → Answer JudgingCause Value
shape_value zero s = refused ValueShape (length s)
shape_value (suc n) s = then (read_node s) λ x s₁. judge_below (λ u w. shape_value n w) (any_body x) x s₁

-- the whole, with nothing left behind it; a tree has no more levels than octets
unfoldable pub shape_whole : List ℕ → Answer JudgingCause Value
shape_whole s =
    then (shape_value (length s) s) λ v r.
    if (not (none_left r)) (refused ValueShape (length r)) λ _. got v r

any_agreeing : (bs : List Bool) → agreeing (any_members bs) bs ≡ true
unfolding agreeing any_members
any_agreeing [] = refl
any_agreeing (true ∷ bs) = any_agreeing bs
any_agreeing (false ∷ bs) = any_agreeing bs

zeros_length : (i : ℕ) → length (zeros i) ≡ suc i
unfolding zeros
zeros_length zero = refl
zeros_length (suc i) = ap suc (zeros_length i)

zeros_at : (i : ℕ) → At 0 (zeros i) i
unfolding zeros
zeros_at zero = first
zeros_at (suc i) = later (zeros_at i)

any_leaf : (x : Leaf) → agrees (Plain (any_simple x)) (a_leaf x) ≡ true
unfolding agrees node_kind leaf_kind kind counts leaf_agrees numbers any_simple listed any
any_leaf (boolean b) = refl
any_leaf (integer z) = refl
any_leaf (bits n c) = refl
any_leaf (string c) = refl
any_leaf null = refl
any_leaf (enumerated k) = simp (eq-eqb k k refl)
any_leaf (time Utc t) = refl
any_leaf (time Generalized t) = refl

any_agrees : (x : Node) → agrees (any_body x) x ≡ true
unfolding any_body agrees node_kind kind counts members alternatives
any_agrees (a_leaf x) = any_leaf x
any_agrees (a_sequence bs) = any_agreeing bs
any_agrees (a_set bs) = any_agreeing bs
any_agrees (a_sequence_of n) = refl
any_agrees (a_set_of n) = refl
any_agrees (a_choice i) = let e = zeros_length i in lt-ltb i (length (zeros i)) (omega arith)

shape_holds : (n t : ℕ) (s : List ℕ) → AllOctets s → Holds (Judged (λ u v. Unit {0}) t s) (shape_value n s)
unfolding shape_value
shape_holds zero t s o = refuses
shape_holds (suc n) t s o =
    then_holds (node_sound s o) λ x s₁ h.
    map_holds (below_sound (λ u v. Unit {0}) (λ u w. shape_value n w) (shape_holds n) (any_body x) x s₁ (every_right (node_octets x) (rw h.0 at o)) (any_agrees x) h.1) λ v u y.
    record { cut = h.0 ∙ y.cut; typed = tt; shaped = y.shaped }

leaf_any : (x : Leaf) → LeafShaped x → TypedLeaf (any_simple x) x
unfolding LeafShaped any_simple listed any
leaf_any (boolean b) h = l_boolean
leaf_any (integer z) h = l_integer h
leaf_any (bits n c) h = l_bits h.0 h.1 h.2
leaf_any (string c) h = l_string h.0
leaf_any null h = l_null
leaf_any (enumerated k) h = l_enumerated {ns = k ∷ []} {k = k} (record { sfits = omega arith }) (simp (eq-eqb k k refl))
leaf_any (time k t) h = l_time h

abbrev Low : ℕ → ℕ → Value → Type 0
Low n t v = depth v ≤ n

record AnyMembers (n : ℕ) (s : Slots) : Type 0 where
  list : List (Option Value)
  is : s ≡ slots list
  fits : MembersTyped (Low n) (any_members (present_of s)) list
  allowed : allowed (any_members (present_of s)) list ≡ true

any_members_lem : (n : ℕ) (s : Slots) → depths s ≤ n → AnyMembers n s
unfolding slots present_of any_members allowed depth
any_members_lem n end h = record { list = []; is = refl; fits = f_done; allowed = refl }
any_members_lem n (missing s) h =
    let x = any_members_lem n s h in record { list = none ∷ x.list; is = ap missing x.is; fits = f_left x.fits; allowed = x.allowed }
any_members_lem n (present v s) h =
    let x = any_members_lem n s (omega arith) in
    let d : depth v ≤ n = omega arith in
    record { list = some v ∷ x.list; is = ap (present v) x.is; fits = f_sent d x.fits; allowed = x.allowed }

any_elements : (n : ℕ) (s : Slots) → Whole s → depths s ≤ n → (vs : List Value) × (s ≡ bag vs) × Every (Low n 0) vs
unfolding bag Whole depth
any_elements n end w h = ([], refl, every_nil)
any_elements n (missing s) w h = absurd w
any_elements n (present v s) w h = let (vs, e, a) = any_elements n s w (omega arith) in (v ∷ vs, ap (present v) e, every_cons {x = v} (omega arith) a)

sequence_typed : (n : ℕ) (s : Slots) (os : List (Option Value)) (ms : List Member) → s ≡ slots os → MembersTyped (Low n) ms os → allowed ms os ≡ true → Typed (Low n) (Sequence ms) (sequence s)
sequence_typed n s os ms e f a = rw e (t_sequence f a)

set_typed : (n : ℕ) (s : Slots) (os : List (Option Value)) (ms : List Member) → s ≡ slots os → MembersTyped (Low n) ms os → allowed ms os ≡ true → Typed (Low n) (Set ms) (set s)
set_typed n s os ms e f a = rw e (t_set f a)

-- a tree is of some type
any_typed : (n : ℕ) (v : Value) → depth v ≤ suc n → Shaped v → Typed (Low n) (any_body (node_of v)) v
unfolding depth Shaped any_body node_of
any_typed n (leaf x) d h = t_plain (leaf_any x h)
any_typed n (sequence s) d h = let x = any_members_lem n s (omega arith) in sequence_typed n s x.list (any_members (present_of s)) x.is x.fits x.allowed
any_typed n (set s) d h = let x = any_members_lem n s (omega arith) in set_typed n s x.list (any_members (present_of s)) x.is x.fits x.allowed
any_typed n (sequence_of s) d h = let (vs, e, a) = any_elements n s h.1 (omega arith) in rw e (t_sequence_of a)
any_typed n (set_of s) d h = let (vs, e, a) = any_elements n s h.1 (omega arith) in rw e (t_set_of a)
any_typed n (choice i v) d h = t_choice {v = v} (zeros_at i) (omega arith)

pub shape_complete : (n : ℕ) (v : Value) (s : List ℕ) → depth v ≤ n → Shaped v → shape_value n (octets v ++ s) ≡ got v s
unfolding shape_value
shape_complete zero v s d h = absurd (shallow v d)
shape_complete (suc n) v s d h =
    let x = seen (Low n) (λ u w. shape_value n w) (λ t v s. shape_complete n v s) (any_body (node_of v)) v s (any_typed n v d h) h in
    simp (run, x.reading, x.below)

leaf_some : (x : Leaf) → 1 ≤ length (leaf_octets x)
unfolding leaf_octets
leaf_some (boolean b) = omega arith
leaf_some (integer z) = omega arith
leaf_some (bits n c) = omega arith
leaf_some (string c) = omega arith
leaf_some null = omega arith
leaf_some (enumerated k) = omega arith
leaf_some (time k t) = omega arith

-- a tree has no more levels than octets
mutual
  unfolding octets depth

  depth_octets : (v : Value) → depth v ≤ length (octets v)
  depth_octets (leaf x) = leaf_some x
  depth_octets (sequence s) = let h = depths_parts s in let e = length-append (presence s) (slot_octets s) in omega arith
  depth_octets (set s) = let h = depths_parts s in let e = length-append (presence s) (slot_octets s) in omega arith
  depth_octets (sequence_of s) = let h = depths_parts s in omega arith
  depth_octets (set_of s) = let h = depths_parts s in omega arith
  depth_octets (choice i v) = let h = depth_octets v in omega arith

  depths_parts : (s : Slots) → depths s ≤ length (slot_octets s)
  depths_parts end = omega arith
  depths_parts (missing s) = depths_parts s
  depths_parts (present v s) = let h = depth_octets v in let k = depths_parts s in let e = length-append (octets v) (slot_octets s) in omega arith

shape_whole_lem : (s : List ℕ) → AllOctets s → Holds (λ v r. (r ≡ []) × (s ≡ octets v) × Shaped v) (shape_whole s)
unfolding shape_whole
shape_whole_lem s o =
    then_holds (shape_holds (length s) 0 s o) λ v r x.
    if_holds _ (λ e. refuses) λ e _.
    let z : r ≡ [] = none_there r (not-false (none_left r) e) in
    yields (z, x.cut ∙ ap (λ (l : List ℕ). octets v ++ l) z ∙ append-nil (octets v), x.shaped)

shape_octets : (v : Value) → Shaped v → shape_whole (octets v) ≡ got v []
unfolding shape_whole
shape_octets v h =
    let x : shape_value (length (octets v)) (octets v) ≡ got v [] = rw append-nil at (shape_complete (length (octets v)) v [] (depth_octets v) h) in
    simp (run, x)

-- Octets are judged shaped exactly when they are the form of a tree.
pub shaped_exactly : (s : List ℕ) → Octets s → (v : Value) → (shape_whole s ≡ got v []) ↔ ((s ≡ octets v) × Shaped v)
shaped_exactly s o v = (λ e. let x = got_holds (shape_whole_lem s (all_octets s o)) e in (x.1, x.2), λ x. rw x.0 (shape_octets v x.1))

-- A tree has one octet form, and a form is of one tree.
pub one_form : (v w : Value) → Shaped v → Shaped w → octets v ≡ octets w → v ≡ w
one_form v w h k e = got_value (sym (shape_octets v h) ∙ ap shape_whole e ∙ shape_octets w k)
