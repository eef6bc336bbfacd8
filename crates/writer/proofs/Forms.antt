-- The form of a value that is accepted: the items of its record's tags around its contents.
-- Assumes nothing.
use mathlib.Core.Bool.{Bool, true, false}
use mathlib.Core.List.{List, []}
use mathlib.Core.Path.{◌≡◌, refl, sym, ◌∙◌}
use Prim.Native.Nat.{ℕ, zero, suc, ◌-◌}
use native.Mathlib.Omega.{arith}
use borrow.Author.Tests.{eqb-true, not-false}
use lib.Dec.{eqb}
use lib.ListN.{get_or}
use Rattle.coding.specs.declared.JudgingCause.{JudgingCause}
use Rattle.octets.specs.Answer.{Answer, got, refused, then}
use Rattle.octets.proofs.Answer.{Holds, yields, refuses, then_holds, map_holds, if_holds}
use Rattle.octets.specs.Lists.{joined}
use Rattle.octets.proofs.Lists.{both}
use Rattle.dates.specs.declared.TimeKind.TheVariants.{Utc, Generalized}
use Rattle.table.specs.Syntax.{Boolean, Integer, BitString, OctetString, Null, Enumerated, Time, Body, Plain, Sequence, Set, SequenceOf, SetOf, Choice, Table}
use Rattle.table.specs.Syntax.{is_choice, constructed}
use Rattle.table.specs.Octets.{kind}
use Rattle.table.specs.Rules.{members}
use Rattle.coding.specs.Value.{Value, leaf, sequence, set, sequence_of, set_of, choice, slots, bag, boolean, integer, bits, string, null, enumerated, time}
use Rattle.coding.specs.Form.{encode, element, alternatives, form_members, form_elements, form_body, wrap, form_at}
use Rattle.coding.specs.Tags.{own_tag, explicit}
use Rattle.coding.specs.Judging.{Node, a_leaf, a_sequence, a_set, a_sequence_of, a_set_of, a_choice, leaf_kind, node_kind, counts, agrees, read_node, judge_members}
use Rattle.coding.specs.Judging.{judge_elements, judge_below, judge_value}
use Rattle.writer.specs.Rows.{contents_form}
use Rattle.writer.proofs.Frames.{frames, Tagged, wrapped_choice, wrapped_item}

-- a CHOICE: a value of one, and a node of one
abbrev chosen : Value → Bool
chosen (leaf x) = false
chosen (sequence s) = false
chosen (set s) = false
chosen (sequence_of s) = false
chosen (set_of s) = false
chosen (choice i x) = true

abbrev a_chosen : Node → Bool
a_chosen (a_leaf x) = false
a_chosen (a_sequence bs) = false
a_chosen (a_set bs) = false
a_chosen (a_sequence_of n) = false
a_chosen (a_set_of n) = false
a_chosen (a_choice i) = true

then_chosen : {A : Type 0} (c : A → Value) (k : Bool) → ((a : A) → chosen (c a) ≡ k) → (J : Answer JudgingCause A) → Holds (λ x u. chosen x ≡ k) (then J λ a u. got (c a) u)
unfolding then
then_chosen c k h (got a u) = yields (h a)
then_chosen c k h (refused n l) = refuses

below_chosen : (r : ℕ → List ℕ → Answer JudgingCause Value) (b : Body) (x : Node) (s : List ℕ) → Holds (λ y u. chosen y ≡ a_chosen x) (judge_below r b x s)
unfolding judge_below
below_chosen r b (a_leaf x) s = yields refl
below_chosen r b (a_sequence bs) s = then_chosen (λ os. sequence (slots os)) false (λ os. refl) (judge_members r (members b) bs [] s)
below_chosen r b (a_set bs) s = then_chosen (λ os. set (slots os)) false (λ os. refl) (judge_members r (members b) bs [] s)
below_chosen r b (a_sequence_of n) s = then_chosen (λ vs. sequence_of (bag vs)) false (λ vs. refl) (judge_elements r n (element b) [] s)
below_chosen r b (a_set_of n) s = then_chosen (λ vs. set_of (bag vs)) false (λ vs. refl) (judge_elements r n (element b) [] s)
below_chosen r b (a_choice i) s = then_chosen (λ x. choice i x) true (λ x. refl) (r (get_or (alternatives b) i 0) s)

choice_kind : (b : Body) → is_choice b ≡ eqb (kind b) 50
unfolding is_choice kind
choice_kind (Plain Boolean) = refl
choice_kind (Plain Integer) = refl
choice_kind (Plain BitString) = refl
choice_kind (Plain OctetString) = refl
choice_kind (Plain Null) = refl
choice_kind (Plain (Enumerated ns)) = refl
choice_kind (Plain (Time Utc)) = refl
choice_kind (Plain (Time Generalized)) = refl
choice_kind (Sequence ms) = refl
choice_kind (Set ms) = refl
choice_kind (SequenceOf t) = refl
choice_kind (SetOf t) = refl
choice_kind (Choice ts) = refl

chosen_kind : (x : Node) → a_chosen x ≡ eqb (node_kind x) 50
unfolding node_kind leaf_kind
chosen_kind (a_leaf (boolean b)) = refl
chosen_kind (a_leaf (integer z)) = refl
chosen_kind (a_leaf (bits n c)) = refl
chosen_kind (a_leaf (string c)) = refl
chosen_kind (a_leaf null) = refl
chosen_kind (a_leaf (enumerated k)) = refl
chosen_kind (a_leaf (time Utc t)) = refl
chosen_kind (a_leaf (time Generalized t)) = refl
chosen_kind (a_sequence bs) = refl
chosen_kind (a_set bs) = refl
chosen_kind (a_sequence_of n) = refl
chosen_kind (a_set_of n) = refl
chosen_kind (a_choice i) = refl

-- a node that agrees with a body has its kind
pub agreed_kind : (b : Body) (x : Node) → agrees b x ≡ true → node_kind x ≡ kind b
unfolding agrees
agreed_kind b x e = eqb-true (node_kind x) (kind b) (both (eqb (node_kind x) (kind b)) (counts b x) e).0

agrees_chosen : (b : Body) (x : Node) → agrees b x ≡ true → is_choice b ≡ a_chosen x
agrees_chosen b x e = rw (choice_kind, chosen_kind, agreed_kind b x e) refl

module _ (T : Table) (g : Tagged T) where
  formed : (n t : ℕ) (x : Value) → is_choice (T t).body ≡ chosen x
      → form_at T (suc n) t x ≡ wrap (frames (constructed (T t).body) (T t).tags) (contents_form T n (T t).body x)
  unfolding form_at form_body contents_form own_tag explicit
  formed n t (leaf x) e = wrapped_item (T t).body (T t).tags (encode x) e (g t)
  formed n t (sequence s) e = wrapped_item (T t).body (T t).tags (joined (form_members (λ u c. form_at T n u c) (members (T t).body) s)) e (g t)
  formed n t (set s) e = wrapped_item (T t).body (T t).tags (joined (form_members (λ u c. form_at T n u c) (members (T t).body) s)) e (g t)
  formed n t (sequence_of s) e = wrapped_item (T t).body (T t).tags (joined (form_elements (λ u c. form_at T n u c) (element (T t).body) s)) e (g t)
  formed n t (set_of s) e = wrapped_item (T t).body (T t).tags (joined (form_elements (λ u c. form_at T n u c) (element (T t).body) s)) e (g t)
  formed n t (choice i x) e = wrapped_choice (T t) (form_at T n (get_or (alternatives (T t).body) i 0) x) e

  anyhow : {A : Type 0} (x : Answer JudgingCause A) → Holds (λ a w. Unit {0}) x
  anyhow (got a w) = yields tt
  anyhow (refused c l) = refuses

  -- of a value of type t that is accepted
  pub value_formed : (n t : ℕ) (s : List ℕ)
      → Holds (λ x w. form_at T n t x ≡ wrap (frames (constructed (T t).body) (T t).tags) (contents_form T (n - 1) (T t).body x)) (judge_value T n t s)
  unfolding judge_value
  value_formed zero t s = then_holds (anyhow (read_node s)) λ x w _. refuses
  value_formed (suc n) t s =
      then_holds (anyhow (read_node s)) λ x w _.
      if_holds _ (λ e. refuses) λ e _.
      let q : suc n - 1 ≡ n = omega arith in
      rw q (map_holds (below_chosen (λ u z. judge_value T n u z) (T t).body x w) λ y u c. formed n t y (agrees_chosen (T t).body x (not-false _ e) ∙ sym c))
