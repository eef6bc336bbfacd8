-- A constructed node against a record of its kind: the count and the presence of its members, its alternative.
-- Assumes nothing.
use mathlib.Core.Bool.{Bool, true, false, ◌&&◌, ◌||◌, false≢true}
use mathlib.Core.List.{List}
use mathlib.Core.Path.{◌≡◌, refl, sym, ap, ◌∙◌}
use Prim.Native.Nat.{ℕ, zero, suc, ◌+◌, ◌-◌, ◌*◌, ◌≤◌, ◌<◌}
use native.Mathlib.Omega.{arith}
use borrow.Author.Tests.{eq-eqb, ne_eqb, eqb-true, eqb-false}
use lib.Dec.{ltb, leb, eqb}
use lib.IntN.{ℤ, pos}
use lib.ListN.{length, get_or}
use Rattle.octets.proofs.Tests.{test, at, or_by, or_false}
use Rattle.octets.specs.Numbers.{Octets, two}
use Rattle.table.specs.Syntax.{Enumerated, Plain}
use Rattle.table.specs.Octets.{kind}
use Rattle.table.specs.Rules.{members}
use Rattle.table.specs.Reading.{numbers_at, members_at, every_at, body_at}
use Rattle.table.specs.Fields.{constructed_of}
use Rattle.kinds.specs.Kinds.{octet_of}
use Rattle.records.specs.Entries.{span_of, counted, lists_number}
use Rattle.records.specs.declared.descriptor.Descriptor.{Descriptor}
use Rattle.records.specs.declared.entry.Span.{Span}
use Rattle.records.proofs.Promises.{entered_enumerated}
use Rattle.coding.specs.Form.{alternatives}
use Rattle.coding.specs.Content.{listed}
use Rattle.coding.specs.Judging.{flags, leaf_kind, node_kind, numbers, leaf_agrees, agreeing, counts, agrees}
use Rattle.writer.specs.Nodes.{own_end, leaf_of, node_of}
use Rattle.writer.specs.Known.{record_in, Known}
use Rattle.writer.proofs.Nodes.{fixed_is, members_is, not_simple, no_built}

-- the mandatory members are present: a loop over them that has come to the i-th
module _ (b : List ℕ) (p n : ℕ) (v : List ℕ) (q i : ℕ) (w : Bool) (e : agreeing (members_at b (p + 2 * i) (n - i)) (flags (every_at 1 v (q + i) (n - i))) ≡ w) where
  more : i < n → n - i ≡ suc (n - (i + 1))
  more h = omega arith

  abbrev Next : Type 0
  Next = agreeing (members_at b (p + 2 * (i + 1)) (n - (i + 1))) (flags (every_at 1 v (q + (i + 1)) (n - (i + 1)))) ≡ w

  next : agreeing (members_at b (p + 2 * i + 2) (n - (i + 1))) (flags (every_at 1 v (q + i + 1) (n - (i + 1)))) ≡ w → Next
  next z = let a : p + 2 * i + 2 ≡ p + 2 * (i + 1) = omega arith in let d : q + i + 1 ≡ q + (i + 1) = omega arith in rw (a, d) at z

  pub complete_ends : n ≤ i → true ≡ w
  unfolding members_at every_at flags agreeing
  complete_ends h = let s : n - i ≡ 0 = omega arith in rw s at e

  pub complete_present : i < n → get_or v (q + i) 0 ≡ 1 → Next
  unfolding members_at every_at flags agreeing
  complete_present h f = next (rw (more h, eq-eqb (get_or v (q + i) 0) 1 f) at e)

  module _ (h : i < n) (f : get_or v (q + i) 0 ≡ 1 → ⊥) (t : Bool) (et : t ≡ eqb (get_or b (p + 2 * i + 1) 0) 1) where
    pub complete_stops : t ≡ false → false ≡ w
    unfolding members_at every_at flags agreeing
    complete_stops g = rw (more h, ne_eqb (get_or v (q + i) 0) 1 f, sym et ∙ g) at e

    pub complete_optional : t ≡ true → Next
    unfolding members_at every_at flags agreeing
    complete_optional g = next (rw (more h, ne_eqb (get_or v (q + i) 0) 1 f, sym et ∙ g) at e)

-- a node and a body of one kind k, whose own parts are at p and at own
pub and_false : (a : Bool) → (a && false) ≡ false
and_false true = refl
and_false false = refl

agreeing_long : (b : List ℕ) (p n : ℕ) (v : List ℕ) (q k : ℕ) → (k ≡ n → ⊥) → agreeing (members_at b p n) (flags (every_at 1 v q k)) ≡ false
unfolding members_at every_at flags agreeing
agreeing_long b p zero v q zero h = absurd (h refl)
agreeing_long b p zero v q (suc k) h = refl
agreeing_long b p (suc n) v q zero h = refl
agreeing_long b p (suc n) v q (suc k) h = rw (agreeing_long b (p + 2) n v (q + 1) k (λ e. h (ap suc e))) (and_false (eqb (get_or v q 0) 1 || eqb (get_or b (p + 1)
    0) 1))

pub same_count : (b : List ℕ) (p n : ℕ) (v : List ℕ) (q k : ℕ) → agreeing (members_at b p n) (flags (every_at 1 v q k)) ≡ true → k ≡ n
same_count b p n v q k h = test (eqb k n) (λ e. eqb-true k n e) λ e. absurd (false≢true (sym (agreeing_long b p n v q k (eqb-false k n e)) ∙ h))

module _ (b v : List ℕ) (own p : ℕ) where
  abbrev pub WithMembers : ℕ → Type 0
  WithMembers k =
      (agrees (body_at b k own) (node_of k v p) ≡ agreeing (members_at b (own + 1) (get_or b own 0)) (flags (every_at 1 v (p + 1) (get_or v p 0))))
      × (span_of b k own ≡ counted b own 2)

  pub with_members : (k : ℕ) → (eqb k 16 || eqb k 17) ≡ true → WithMembers k
  unfolding agrees body_at node_of node_kind kind counts members span_of
  with_members k h =
      or_by (eqb k 16) (eqb k 17) h (λ a. rw (eqb-true k 16 a) (refl, refl)) λ a. rw (eqb-true k 17 a) (refl, refl)

  length_every : (q n : ℕ) → length (every_at 1 b q n) ≡ n
  unfolding every_at
  length_every q zero = refl
  length_every q (suc n) = ap suc (length_every (q + 1) n)

  pub with_choice : (k : ℕ) → k ≡ 50 → (agrees (body_at b k own) (node_of k v p) ≡ ltb (get_or v p 0) (get_or b own 0)) × (span_of b k own ≡ counted b own 1)
  unfolding agrees body_at node_of node_kind kind counts alternatives span_of
  with_choice k h = rw h (ap (ltb (get_or v p 0)) (length_every (own + 1) (get_or b own 0)), refl)

  abbrev WithRest : ℕ → Type 0
  WithRest k = constructed_of k ≡ true → eqb k 16 ≡ false → eqb k 17 ≡ false → eqb k 50 ≡ false → 0 < own_end k v p → agrees (body_at b k own) (node_of k v p) ≡ true

  with_rest : (k : ℕ) → WithRest k
  unfolding agrees body_at node_of node_kind kind counts own_end
  with_rest k =
      at k 48 WithRest (λ g _ _ _ _. refl) λ e₄₈.
      at k 49 WithRest (λ g _ _ _ _. refl) λ e₄₉ g e₁₆ e₁₇ e₅₀ h.
      let (e₁, e₂, e₃, e₄, e₅, e₁₀, e₂₃, e₂₄) = not_simple k g in
      absurd (none (rw (e₁, e₂, e₃, e₄, e₅, e₁₀, e₂₃, e₂₄, e₁₆, e₁₇, e₄₈, e₄₉, e₅₀) at h))
    where
      none : 0 < 0 → ⊥
      none h = omega arith

-- a record's body whose own octets are at own against a node of its kind k: the ways out
module _ (b v : List ℕ) (own k p : ℕ) where
  abbrev Agrees : Bool
  Agrees = agrees (body_at b k own) (node_of k v p)

  module _ (s : Span) (es : s ≡ span_of b k own) (t : Bool) (et : t ≡ (eqb k 16 || eqb k 17)) where
    -- members
    module _ (h : t ≡ true) where
      with : WithMembers b v own p k
      with = with_members b v own p k (sym et ∙ h)

      span : s ≡ counted b own 2
      span = es ∙ with.1

      pub members_there : 0 < own_end k v p → p + 1 + get_or v p 0 ≤ length v
      unfolding own_end
      members_there g = or_by (eqb k 16) (eqb k 17) (sym et ∙ h) (λ a. (members_is v p (rw (eqb-true k 16 a) at g)).1) λ a. (members_is v p
          (rw (eqb-true k 17 a) at g)).1

      pub agrees_count : (get_or v p 0 ≡ s.count → ⊥) → false ≡ Agrees
      agrees_count f =
          sym (agreeing_long b (own + 1) (get_or b own 0) v (p + 1) (get_or v p 0) (λ z. f (z ∙ sym (ap (λ (x : Span). x.count) span))))
          ∙ sym with.0

      pub agrees_complete : get_or v p 0 ≡ s.count → (r : Bool)
          → r ≡ agreeing (members_at b s.first s.count) (flags (every_at 1 v (p + 1) s.count)) → r ≡ Agrees
      agrees_complete f r er =
          let q : agreeing (members_at b s.first s.count) (flags (every_at 1 v (p + 1) s.count)) ≡ agreeing (members_at b (own + 1) (get_or b own 0)) (flags (every_at 1 v (p + 1) (get_or v p 0))) = rw (f, span) refl in
          er ∙ q ∙ sym with.0

      pub members_near : Octets b → own < 65536 → (s.first < 70000) × (s.count < 256)
      members_near o l = rw span (omega arith, o own)

    module _ (h : t ≡ false) where
      -- an alternative
      pub choice_there : k ≡ 50 → 0 < own_end k v p → p < length v
      unfolding own_end
      choice_there f g = let z = (fixed_is v (p + 1) (rw f at g)).1 in omega arith

      pub agrees_choice : k ≡ 50 → ltb (get_or v p 0) s.count ≡ Agrees
      agrees_choice f =
          let z = with_choice b v own p k f in
          let q : s.count ≡ get_or b own 0 = ap (λ (y : Span). y.count) (es ∙ z.1) in
          rw q (sym z.0)

      -- elements
      pub agrees_list : (k ≡ 50 → ⊥) → constructed_of k ≡ true → 0 < own_end k v p → true ≡ Agrees
      agrees_list f g i =
          let z = or_false (eqb k 16) (eqb k 17) (sym et ∙ h) in
          sym (with_rest b v own p k g z.0 z.1 (ne_eqb k 50 f) i)

-- a leaf of kind k against a body of that kind
abbrev LeafRest : List ℕ → List ℕ → ℕ → ℕ → ℕ → Type 0
LeafRest b v own p k = constructed_of k ≡ false → eqb k 10 ≡ false → 0 < own_end k v p → agrees (body_at b k own) (node_of k v p) ≡ true

leaf_rest : (b v : List ℕ) (own p k : ℕ) → LeafRest b v own p k
unfolding agrees node_of leaf_of node_kind leaf_kind kind body_at counts leaf_agrees own_end
leaf_rest b v own p k =
    at k 1 (LeafRest b v own p) (λ _ _ _. refl) λ e₁.
    at k 2 (LeafRest b v own p) (λ _ _ _. refl) λ e₂.
    at k 3 (LeafRest b v own p) (λ _ _ _. refl) λ e₃.
    at k 4 (LeafRest b v own p) (λ _ _ _. refl) λ e₄.
    at k 5 (LeafRest b v own p) (λ _ _ _. refl) λ e₅.
    at k 23 (LeafRest b v own p) (λ _ _ _. refl) λ e₂₃.
    at k 24 (LeafRest b v own p) (λ _ _ _. refl) λ e₂₄ g e₁₀ h.
    let (e₁₆, e₁₇, e₄₈, e₄₉, e₅₀) = no_built k g in
    absurd (omega (arith, rw (e₁, e₂, e₃, e₄, e₅, e₁₀, e₂₃, e₂₄, e₁₆, e₁₇, e₄₈, e₄₉, e₅₀) at h))

module _ (b v : List ℕ) (own k p : ℕ) where
  pub leaf_agrees_lem : constructed_of k ≡ false → (k ≡ 10 → ⊥) → 0 < own_end k v p → true ≡ agrees (body_at b k own) (node_of k v p)
  leaf_agrees_lem g f h = sym (leaf_rest b v own p k g (ne_eqb k 10 f) h)

  pub number_there : k ≡ 10 → 0 < own_end k v p → p + 2 ≤ length v
  unfolding own_end
  number_there f h = (fixed_is v (p + 2) (rw f at h)).1

-- a number that is listed
module _ (b : List ℕ) (e : Descriptor) (K : Known b e) (v : List ℕ) (p : ℕ) (f : octet_of e.kind ≡ 10) (n : ℕ) (en : n ≡ two v p) (z : ℤ) (ez : z ≡ pos n) where
  numbers_of : (record_in b e).body ≡ Plain (Enumerated (numbers_at b (e.own + 1) (get_or b e.own 0)))
  unfolding body_at
  numbers_of = rw f refl

  listed_is : lists_number (numbers_at b (e.own + 1) (get_or b e.own 0)) (pos (two v p)) ≡ agrees (record_in b e).body (node_of (octet_of e.kind) v p)
  unfolding agrees node_of leaf_of node_kind leaf_kind kind body_at counts leaf_agrees numbers listed
  listed_is = rw f refl

  pub number_agrees : (r : Bool) → r ≡ (leb (e.own + 1 + 2 * get_or b e.own 0) (length b) && lists_number (numbers_at b (e.own + 1) (get_or b e.own 0)) z)
      → r ≡ agrees (record_in b e).body (node_of (octet_of e.kind) v p)
  number_agrees r er =
      let w = (entered_enumerated K.entered (numbers_at b (e.own + 1) (get_or b e.own 0)) numbers_of).within in
      er ∙ rw (w, ez, en) listed_is
