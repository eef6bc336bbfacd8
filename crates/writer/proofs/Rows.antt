-- Rows: what stands in a node is judged as its row is, with the same form; a row is judged one value after another, each at a place behind the one before.
-- Assumes nothing.
use mathlib.Core.Bool.{Bool, true, false, false≢true}
use mathlib.Core.List.{List, [], ◌∷◌, ◌++◌, append-nil}
use mathlib.Core.Option.{Option, some, none}
use mathlib.Core.Path.{◌≡◌, refl, sym, ap, ◌∙◌}
use Prim.Native.Nat.{ℕ, zero, suc, ◌-◌, ◌≤◌}
use native.Mathlib.Omega.{arith}
use lib.ListN.{length, get_or, drop, replicate}
use lib.Seq.{append_snoc}
use Rattle.coding.specs.declared.JudgingCause.{JudgingCause}
use Rattle.octets.specs.Answer.{Answer, got, refused, then}
use Rattle.octets.proofs.Answer.{Holds, yields, refuses, then_holds, map_holds, if_holds}
use Rattle.octets.specs.Lists.{joined}
use Rattle.table.specs.Syntax.{Member, Body, Table, constructed}
use Rattle.table.specs.Reading.{body_at}
use Rattle.table.specs.Rules.{members}
use Rattle.table.specs.Fields.{constructed_of}
use Rattle.dates.specs.declared.TimeKind.TheVariants.{Utc, Generalized}
use Rattle.coding.specs.Value.{Leaf, boolean, integer, bits, string, null, enumerated, time, Value, sequence, set, sequence_of, set_of, choice, slots, bag}
use Rattle.coding.specs.Form.{element, alternatives, form_members, form_elements, form_at}
use Rattle.coding.specs.Judging.{Node, a_leaf, a_sequence, a_set, a_sequence_of, a_set_of, a_choice, leaf_kind, node_kind, judge_members, judge_elements}
use Rattle.coding.specs.Judging.{judge_below, judge_value}
use Rattle.writer.specs.Frames.{cap}
use Rattle.writer.specs.Rows.{present_of, row_of, judge_each, judge_row, row_form, contents_form}
use Rattle.writer.specs.Told.{fit, told, written, ended, IsDone}
use Rattle.writer.proofs.Reading.{Reads, bad, good, node_reads}

-- two answers with the same form and the same rest, or the same refusal
pub data Alike {A B : Type 0} (f : A → List ℕ) (g : B → List ℕ) : Answer JudgingCause A → Answer JudgingCause B → Type 0 where
  both : {a : A} {b : B} {s : List ℕ} → f a ≡ g b → Alike f g (got a s) (got b s)
  neither : {c : JudgingCause} {l : ℕ} → Alike f g (refused c l) (refused c l)

module _ {A B : Type 0} {f : A → List ℕ} {g : B → List ℕ} where
  pub alike_told : {x : Answer JudgingCause A} {y : Answer JudgingCause B} → Alike f g x y → (v : List ℕ) → told f v x ≡ told g v y
  unfolding told
  alike_told (both {s = s} e) v = ap (λ (l : List ℕ). fit (length v - length s) (cap (length l))) e
  alike_told neither v = refl

  pub alike_written : {x : Answer JudgingCause A} {y : Answer JudgingCause B} → Alike f g x y → written f x ≡ written g y
  unfolding written
  alike_written (both e) = e
  alike_written neither = refl

  pub alike_ended : {x : Answer JudgingCause A} {y : Answer JudgingCause B} → Alike f g x y → (v : List ℕ) → ended v x ≡ ended v y
  unfolding ended
  alike_ended (both e) v = refl
  alike_ended neither v = refl

  pub alike_done : {x : Answer JudgingCause A} {y : Answer JudgingCause B} → Alike f g x y → IsDone x → IsDone y
  unfolding IsDone
  alike_done (both e) d = tt
  alike_done neither d = d

  alike_rest : {P : List ℕ → Type 0} {x : Answer JudgingCause A} {y : Answer JudgingCause B} → Alike f g x y → Holds (λ b w. P w) y → Holds (λ a w. P w) x
  alike_rest (both e) (yields p) = yields p
  alike_rest neither h = refuses

  alike_then : {C D : Type 0} {h : C → List ℕ} {k : D → List ℕ} {x : Answer JudgingCause A} {y : Answer JudgingCause B} (c : A → C) (d : B → D)
      → ((a : A) (b : B) → f a ≡ g b → h (c a) ≡ k (d b)) → Alike f g x y
      → Alike h k (then x λ a u. got (c a) u) (then y λ b u. got (d b) u)
  unfolding then
  alike_then c d e (both {a = a} {b = b} q) = both (e a b q)
  alike_then c d e neither = neither

  alike_map : {C : Type 0} {h : C → List ℕ} {x : Answer JudgingCause A} {y : Answer JudgingCause B} (c : A → C) → ((a : A) → h (c a) ≡ f a) → Alike f g x y
      → Alike h g (then x λ a u. got (c a) u) y
  unfolding then
  alike_map c e (both {a = a} q) = both (e a ∙ q)
  alike_map c e neither = neither

  alike_after : {C : Type 0} (x : Answer JudgingCause C) {k : C → List ℕ → Answer JudgingCause A} {m : C → List ℕ → Answer JudgingCause B} → ((c : C) (s : List ℕ) → Alike f g (k c s) (m c s))
      → Alike f g (then x k) (then x m)
  unfolding then
  alike_after (got c s) h = h c s
  alike_after (refused n l) h = neither

-- what is in hand comes before the rest
regroup : {A : Type 0} (J : Answer JudgingCause (List A)) (acc : List A) (a : A)
    → then J (λ os u. got ((acc ++ (a ∷ [])) ++ os) u) ≡ then (then J λ os u. got (a ∷ os) u) λ os u. got (acc ++ os) u
unfolding then
regroup (got os u) acc a = ap (λ (l : List _). got l u) (append_snoc acc a os)
regroup (refused c l) acc a = refl

gather_first : {A : Type 0} (acc : List A) (e : Value → A) (K : List A → List ℕ → Answer JudgingCause (List A))
    → ((a : List A) (s : List ℕ) → K a s ≡ then (K [] s) λ os u. got (a ++ os) u)
    → (x : Answer JudgingCause Value) → then x (λ v s₁. K (acc ++ (e v ∷ [])) s₁) ≡ then (then x (λ v s₁. K (e v ∷ []) s₁)) λ os u. got (acc ++ os) u
unfolding then
gather_first acc e K h (got v s) =
    h (acc ++ (e v ∷ [])) s ∙ regroup (K [] s) acc (e v) ∙ ap (λ (y : Answer JudgingCause (List _)). then y λ os u. got (acc ++ os) u) (sym (h (e v ∷ []) s))
gather_first acc e K h (refused c l) = refl

module _ (r : ℕ → List ℕ → Answer JudgingCause Value) where
  gather_members : (ms : List Member) (bs : List Bool) (acc : List (Option Value)) (s : List ℕ)
      → judge_members r ms bs acc s ≡ then (judge_members r ms bs [] s) λ os u. got (acc ++ os) u
  unfolding judge_members then
  gather_members [] bs acc s = ap (λ (l : List (Option Value)). got l s) (sym (append-nil acc))
  gather_members (m ∷ ms) [] acc s = ap (λ (l : List (Option Value)). got l s) (sym (append-nil acc))
  gather_members (m ∷ ms) (true ∷ bs) acc s = gather_first acc some (λ a s₁. judge_members r ms bs a s₁) (λ a s₁. gather_members ms bs a s₁) (r m.type s)
  gather_members (m ∷ ms) (false ∷ bs) acc s =
      gather_members ms bs (acc ++ (none ∷ [])) s
      ∙ regroup (judge_members r ms bs [] s) acc none
      ∙ ap (λ (y : Answer JudgingCause (List (Option Value))). then y λ os u. got (acc ++ os) u) (sym (gather_members ms bs (none ∷ []) s))

  gather_elements : (n t : ℕ) (acc : List Value) (s : List ℕ) → judge_elements r n t acc s ≡ then (judge_elements r n t [] s) λ vs u. got (acc ++ vs) u
  unfolding judge_elements then
  gather_elements zero t acc s = ap (λ (l : List Value). got l s) (sym (append-nil acc))
  gather_elements (suc n) t acc s = gather_first acc (λ x. x) (λ a s₁. judge_elements r n t a s₁) (λ a s₁. gather_elements n t a s₁) (r t s)

  gather_row : (ts : List ℕ) (acc : List Value) (s : List ℕ) → judge_each r ts acc s ≡ then (judge_each r ts [] s) λ vs u. got (acc ++ vs) u
  unfolding judge_each then
  gather_row [] acc s = ap (λ (l : List Value). got l s) (sym (append-nil acc))
  gather_row (t ∷ ts) acc s = gather_first acc (λ x. x) (λ a s₁. judge_each r ts a s₁) (λ a s₁. gather_row ts a s₁) (r t s)

  -- the first, then the rest
  pub row_take : (t : ℕ) (ts s s₁ : List ℕ) (x : Value) → r t s ≡ got x s₁ → judge_each r (t ∷ ts) [] s ≡ then (judge_each r ts [] s₁) λ vs u. got (x ∷ vs) u
  unfolding judge_each then
  row_take t ts s s₁ x e = rw e (gather_row ts (x ∷ []) s₁)

module _ (T : Table) (n : ℕ) where
  abbrev members_form : List Member → List (Option Value) → List ℕ
  members_form ms os = joined (form_members (λ u c. form_at T n u c) ms (slots os))

  abbrev elements_form : ℕ → List Value → List ℕ
  elements_form t vs = joined (form_elements (λ u c. form_at T n u c) t (bag vs))

  members_row : (ms : List Member) (bs : List Bool) (s : List ℕ)
      → Alike (members_form ms) (row_form T n (present_of ms bs)) (judge_members (λ u w. judge_value T n u w) ms bs [] s) (judge_row T n (present_of ms bs) s)
  unfolding judge_members present_of judge_each form_members slots joined row_form
  members_row [] bs s = both refl
  members_row (m ∷ ms) [] s = both refl
  members_row (m ∷ ms) (true ∷ bs) s =
      alike_after (judge_value T n m.type s) λ v s₁.
      rw (gather_members (λ u w. judge_value T n u w) ms bs (some v ∷ []) s₁, gather_row (λ u w. judge_value T n u w) (present_of ms bs) (v ∷ []) s₁)
      (alike_then (λ os. some v ∷ os) (λ vs. v ∷ vs) (λ os vs e. ap (λ (l : List ℕ). form_at T n m.type v ++ l) e) (members_row ms bs s₁))
  members_row (m ∷ ms) (false ∷ bs) s = rw (gather_members (λ u w. judge_value T n u w) ms bs (none ∷ []) s) (alike_map (λ os. none ∷ os) (λ os. refl)
      (members_row ms bs s))

  elements_row : (k t : ℕ) (s : List ℕ) → Alike (elements_form t) (row_form T n (replicate k t)) (judge_elements (λ u w. judge_value T n u w) k t [] s) (judge_row
      T n (replicate k t) s)
  unfolding judge_elements judge_each form_elements bag joined row_form
  elements_row zero t s = both refl
  elements_row (suc k) t s =
      alike_after (judge_value T n t s) λ v s₁.
      rw (gather_elements (λ u w. judge_value T n u w) k t (v ∷ []) s₁, gather_row (λ u w. judge_value T n u w) (replicate k t) (v ∷ []) s₁)
      (alike_then (λ vs. v ∷ vs) (λ vs. v ∷ vs) (λ vs ws e. ap (λ (l : List ℕ). form_at T n t v ++ l) e) (elements_row k t s₁))

  leaf_simple : (x : Leaf) → constructed_of (leaf_kind x) ≡ false
  unfolding leaf_kind body_at constructed
  leaf_simple (boolean b) = refl
  leaf_simple (integer z) = refl
  leaf_simple (bits m c) = refl
  leaf_simple (string c) = refl
  leaf_simple null = refl
  leaf_simple (enumerated m) = refl
  leaf_simple (time Utc t) = refl
  leaf_simple (time Generalized t) = refl

  -- one value is a row of one
  pub one_row : (t : ℕ) (s : List ℕ) → Alike (form_at T n t) (row_form T n (t ∷ [])) (judge_value T n t s) (judge_row T n (t ∷ []) s)
  unfolding judge_each row_form then
  one_row t s = go (judge_value T n t s)
    where
      go : (x : Answer JudgingCause Value) → Alike (form_at T n t) (row_form T n (t ∷ [])) x (then x λ v s₁. got (v ∷ []) s₁)
      go (got v s₁) = both (sym (append-nil (form_at T n t v)))
      go (refused c l) = neither

  -- what stands below a constructed node is its row
  pub below_row : (b : Body) (x : Node) → constructed_of (node_kind x) ≡ true → (s : List ℕ)
      → Alike (contents_form T n b) (row_form T n (row_of b x)) (judge_below (λ u w. judge_value T n u w) b x s) (judge_row T n (row_of b x) s)
  unfolding judge_below row_of contents_form node_kind
  below_row b (a_leaf x) h s = absurd (false≢true (sym (leaf_simple x) ∙ h))
  below_row b (a_sequence bs) h s = alike_map (λ os. sequence (slots os)) (λ os. refl) (members_row (members b) bs s)
  below_row b (a_set bs) h s = alike_map (λ os. set (slots os)) (λ os. refl) (members_row (members b) bs s)
  below_row b (a_sequence_of k) h s = alike_map (λ vs. sequence_of (bag vs)) (λ vs. refl) (elements_row k (element b) s)
  below_row b (a_set_of k) h s = alike_map (λ vs. set_of (bag vs)) (λ vs. refl) (elements_row k (element b) s)
  below_row b (a_choice i) h s = alike_map (λ v. choice i v) (λ v. refl) (one_row (get_or (alternatives b) i 0) s)

-- w begins at a place of v, at or behind `at`
pub record Behind (v : List ℕ) (at : ℕ) (w : List ℕ) : Type 0 where
  pub to : ℕ
  pub is : w ≡ drop to v
  pub onward : at ≤ to
  pub within : to ≤ length v

farther : {v : List ℕ} {at to : ℕ} {w : List ℕ} → at ≤ to → Behind v to w → Behind v at w
farther h z = record { to = z.to; is = z.is; onward = (let o = z.onward in omega arith); within = z.within }

each_behind : (v : List ℕ) (r : ℕ → List ℕ → Answer JudgingCause Value) → ((t at : ℕ) → at ≤ length v → Holds (λ x w. Behind v at w) (r t (drop at v)))
    → (ts : List ℕ) (vs : List Value) (at : ℕ) → at ≤ length v → Holds (λ x w. Behind v at w) (judge_each r ts vs (drop at v))
unfolding judge_each
each_behind v r b [] vs at h = yields (record { to = at; is = refl; onward = omega arith; within = h })
each_behind v r b (t ∷ ts) vs at h =
    then_holds (b t at h) λ x w y. rw y.is (map_holds (each_behind v r b ts (vs ++ (x ∷ [])) y.to y.within) λ _ _ z. farther y.onward z)

module _ (T : Table) (n : ℕ) (v : List ℕ) (b : (t at : ℕ) → at ≤ length v → Holds (λ x w. Behind v at w) (judge_value T n t (drop at v))) (c : Body) (at : ℕ)
    (h : at ≤ length v) where
  by_row : (x : Node) → constructed_of (node_kind x) ≡ true → Holds (λ y w. Behind v at w) (judge_below (λ u w. judge_value T n u w) c x (drop at v))
  by_row x k = alike_rest (below_row T n c x k (drop at v)) (each_behind v (λ u w. judge_value T n u w) b (row_of c x) [] at h)

  below_behind : (x : Node) → Holds (λ y w. Behind v at w) (judge_below (λ u w. judge_value T n u w) c x (drop at v))
  unfolding judge_below node_kind body_at constructed
  below_behind (a_leaf x) = yields (record { to = at; is = refl; onward = omega arith; within = h })
  below_behind (a_sequence bs) = by_row (a_sequence bs) refl
  below_behind (a_set bs) = by_row (a_set bs) refl
  below_behind (a_sequence_of k) = by_row (a_sequence_of k) refl
  below_behind (a_set_of k) = by_row (a_set_of k) refl
  below_behind (a_choice i) = by_row (a_choice i) refl

node_behind : {v : List ℕ} {l p : ℕ} {x : Node} {e : ℕ} {a : Answer JudgingCause Node} → Reads v l p x e a → Holds (λ y w. Behind v p w) a
node_behind bad = refuses
node_behind (good e h k) = yields (record { to = e; is = refl; onward = h; within = k })

pub value_behind : (T : Table) (n : ℕ) (v : List ℕ) (t at : ℕ) → at ≤ length v → Holds (λ x w. Behind v at w) (judge_value T n t (drop at v))
unfolding judge_value
value_behind T zero v t at h = then_holds (node_behind (node_reads v at h)) λ x w y. refuses
value_behind T (suc n) v t at h =
    then_holds (node_behind (node_reads v at h)) λ x w y.
    if_holds _ (λ e. refuses) λ e _.
    let o = y.onward in
    rw y.is (map_holds (below_behind T n v (value_behind T n v) (T t).body y.to y.within x) λ _ _ z. farther (omega arith) z)

pub row_behind : (T : Table) (n : ℕ) (v ts : List ℕ) (at : ℕ) → at ≤ length v → Holds (λ x w. Behind v at w) (judge_row T n ts (drop at v))
row_behind T n v ts at h = each_behind v (λ u w. judge_value T n u w) (value_behind T n v) ts [] at h
