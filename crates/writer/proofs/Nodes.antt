-- Nodes by their kinds: where they end, and which are leaves.
-- Assumes nothing.
use mathlib.Core.Bool.{Bool, true, false, not, ◌||◌, false≢true}
use mathlib.Core.List.{List}
use mathlib.Core.Path.{◌≡◌, refl, sym, ap, ◌∙◌}
use Prim.Native.Nat.{ℕ, zero, suc, ◌+◌, ◌-◌, ◌≤◌, ◌<◌}
use native.Mathlib.Omega.{arith}
use borrow.Author.Tests.{lt-ltb, le-ltb, ne_eqb, ltb-true, ltb-false}
use lib.Dec.{ltb, eqb}
use lib.ListN.{length, get_or, take, drop, length-take, length-drop}
use lib.Seq.{get_or-take, get_or-drop}
use Rattle.std.specs.Prelude.{Option, Some}
use Rattle.octets.specs.Numbers.{unless_zero}
use Rattle.octets.proofs.Tests.{test, at, or_false}
use Rattle.octets.proofs.Lists.{both}
use Rattle.octets.specs.Lists.{all}
use Rattle.dates.specs.declared.TimeKind.TheVariants.{Utc, Generalized}
use Rattle.table.specs.Syntax.{Boolean, Integer, BitString, OctetString, Null, Enumerated, Time, Body, Plain, Sequence, Set, SequenceOf, SetOf, Choice, constructed}
use Rattle.table.specs.Octets.{kind}
use Rattle.table.specs.Reading.{every_at, body_at}
use Rattle.table.specs.Fields.{constructed_of}
use Rattle.kinds.specs.declared.Kind.{Kind}
use Rattle.kinds.specs.Kinds.{octet_of}
use Rattle.kinds.proofs.Same.{no_octet}
use Rattle.coding.specs.Judging.{a_leaf, leaf_kind, node_kind, agrees}
use Rattle.writer.specs.Nodes.{fixed_end, members_end, own_end, end_at, leaf_of, node_of, node_at}
use Rattle.writer.proofs.Forms.{agreed_kind}

none : {X : Type 0} → 0 < 0 → X
none h = absurd (omega arith)

-- a node that is shaped has a shaped own part
pub own_end_is : (v : List ℕ) (p : ℕ) → 0 < end_at v p → end_at v p ≡ own_end (get_or v (p + 2) 0) v (p + 3)
unfolding end_at
own_end_is v p h =
    test (ltb (length v) (p + 3)) (λ e. none (rw e at h)) λ e.
    test (not (eqb (get_or v p 0) 0x56)) (λ f. none (rw (e, f) at h)) λ f.
    test (not (eqb (get_or v (p + 1) 0) 0x41)) (λ g. none (rw (e, f, g) at h)) λ g. rw (e, f, g) refl

pub own_shaped : (v : List ℕ) (p : ℕ) → 0 < end_at v p → 0 < own_end (get_or v (p + 2) 0) v (p + 3)
own_shaped v p h = rw (own_end_is v p h) at h

abbrev NodeKindAt : List ℕ → ℕ → ℕ → Type 0
NodeKindAt v p k = 0 < own_end k v p → node_kind (node_of k v p) ≡ k

pub node_kind_lem : (k : ℕ) (v : List ℕ) (p : ℕ) → NodeKindAt v p k
unfolding node_of leaf_of node_kind leaf_kind own_end
node_kind_lem k v p =
    at k 1 (NodeKindAt v p) (λ h. refl) λ e₁.
    at k 2 (NodeKindAt v p) (λ h. refl) λ e₂.
    at k 3 (NodeKindAt v p) (λ h. refl) λ e₃.
    at k 4 (NodeKindAt v p) (λ h. refl) λ e₄.
    at k 5 (NodeKindAt v p) (λ h. refl) λ e₅.
    at k 10 (NodeKindAt v p) (λ h. refl) λ e₁₀.
    at k 23 (NodeKindAt v p) (λ h. refl) λ e₂₃.
    at k 24 (NodeKindAt v p) (λ h. refl) λ e₂₄.
    at k 16 (NodeKindAt v p) (λ h. refl) λ e₁₆.
    at k 17 (NodeKindAt v p) (λ h. refl) λ e₁₇.
    at k 48 (NodeKindAt v p) (λ h. refl) λ e₄₈.
    at k 49 (NodeKindAt v p) (λ h. refl) λ e₄₉.
    at k 50 (NodeKindAt v p) (λ h. refl) λ e₅₀ h.
    none (rw (e₁, e₂, e₃, e₄, e₅, e₁₀, e₂₃, e₂₄, e₁₆, e₁₇, e₄₈, e₄₉, e₅₀) at h)

-- an octet that no kind has is no node's
pub no_kind : (k : ℕ) (v : List ℕ) (p : ℕ) → ((j : Kind) → octet_of j ≡ k → ⊥) → own_end k v p ≡ 0
unfolding own_end
no_kind k v p h =
    let (e₁, e₂, e₃, e₄, e₅, e₁₀, e₂₃, e₂₄, e₁₆, e₁₇, e₄₈, e₄₉, e₅₀) = no_octet k h in
    rw (e₁, e₂, e₃, e₄, e₅, e₁₀, e₂₃, e₂₄, e₁₆, e₁₇, e₄₈, e₄₉, e₅₀) refl

-- a simple kind is none that is constructed
other_kind_lem : (k j : ℕ) → constructed_of k ≡ false → constructed_of j ≡ true → eqb k j ≡ false
other_kind_lem k j h g = ne_eqb k j (λ e. false≢true (sym h ∙ ap (λ i. constructed_of i) e ∙ g))

pub no_built : (k : ℕ) → constructed_of k ≡ false → (eqb k 16 ≡ false) × (eqb k 17 ≡ false) × (eqb k 48 ≡ false) × (eqb k 49 ≡ false) × (eqb k 50 ≡ false)
unfolding body_at constructed
no_built k h = (other_kind_lem k 16 h refl, other_kind_lem k 17 h refl, other_kind_lem k 48 h refl, other_kind_lem k 49 h refl, other_kind_lem k 50 h refl)

-- a constructed kind is none of the simple ones
abbrev SimpleNot : ℕ → Type 0
SimpleNot k = constructed_of k ≡ true → (eqb k 1 ≡ false) × (eqb k 2 ≡ false) × (eqb k 3 ≡ false) × (eqb k 4 ≡ false) × (eqb k 5 ≡ false) × (eqb k 10 ≡ false) × (eqb k 23 ≡ false) × (eqb k 24 ≡ false)

pub not_simple : (k : ℕ) → SimpleNot k
unfolding body_at constructed
not_simple k =
    at k 1 SimpleNot (λ h. absurd (false≢true h)) λ e₁.
    at k 2 SimpleNot (λ h. absurd (false≢true h)) λ e₂.
    at k 3 SimpleNot (λ h. absurd (false≢true h)) λ e₃.
    at k 4 SimpleNot (λ h. absurd (false≢true h)) λ e₄.
    at k 5 SimpleNot (λ h. absurd (false≢true h)) λ e₅.
    at k 10 SimpleNot (λ h. absurd (false≢true h)) λ e₁₀.
    at k 23 SimpleNot (λ h. absurd (false≢true h)) λ e₂₃.
    at k 24 SimpleNot (λ h. absurd (false≢true h)) λ e₂₄ h. (e₁, e₂, e₃, e₄, e₅, e₁₀, e₂₃, e₂₄)

-- the node of a simple kind is a leaf
pub leaf_node : (k : ℕ) (v : List ℕ) (p : ℕ) → constructed_of k ≡ false → node_of k v p ≡ a_leaf (leaf_of k v p)
unfolding node_of
leaf_node k v p h = let (e₁₆, e₁₇, e₄₈, e₄₉, e₅₀) = no_built k h in rw (e₁₆, e₁₇, e₄₈, e₄₉, e₅₀) refl

-- what a kind says of its body
constructed_kind : (c : Body) → constructed c ≡ constructed_of (kind c)
unfolding constructed kind body_at
constructed_kind (Plain Boolean) = refl
constructed_kind (Plain Integer) = refl
constructed_kind (Plain BitString) = refl
constructed_kind (Plain OctetString) = refl
constructed_kind (Plain Null) = refl
constructed_kind (Plain (Enumerated ns)) = refl
constructed_kind (Plain (Time Utc)) = refl
constructed_kind (Plain (Time Generalized)) = refl
constructed_kind (Sequence ms) = refl
constructed_kind (Set ms) = refl
constructed_kind (SequenceOf t) = refl
constructed_kind (SetOf t) = refl
constructed_kind (Choice ts) = refl

module _ (c : Body) (v : List ℕ) (p : ℕ) (h : 0 < end_at v p) (a : agrees c (node_at v p) ≡ true) where
  agreed_octet : get_or v (p + 2) 0 ≡ kind c
  agreed_octet = sym (node_kind_lem (get_or v (p + 2) 0) v (p + 3) (own_shaped v p h)) ∙ agreed_kind c (node_at v p) a

  pub constructed_node : constructed c ≡ constructed_of (get_or v (p + 2) 0)
  constructed_node = constructed_kind c ∙ ap (λ k. constructed_of k) (sym agreed_octet)

  pub built_kind : constructed c ≡ true → constructed_of (node_kind (node_at v p)) ≡ true
  built_kind e = rw (agreed_kind c (node_at v p) a) (sym (constructed_kind c) ∙ e)

  pub leaf_kind_lem : constructed c ≡ false → constructed_of (get_or v (p + 2) 0) ≡ false
  leaf_kind_lem e = rw agreed_octet (sym (constructed_kind c) ∙ e)

pub fixed_is : (v : List ℕ) (e : ℕ) → 0 < fixed_end v e → (fixed_end v e ≡ e) × (e ≤ length v)
unfolding fixed_end
fixed_is v e h = test (ltb (length v) e) (λ t. none (rw t at h)) λ t. (rw t refl, ltb-false (length v) e t)

pub members_is : (v : List ℕ) (p : ℕ) → 0 < members_end v p
    → (members_end v p ≡ p + 1 + get_or v p 0) × (p + 1 + get_or v p 0 ≤ length v) × (all (λ b. ltb b 2) (every_at 1 v (p + 1) (get_or v p 0)) ≡ true)
unfolding members_end
members_is v p h =
    test (ltb (length v) (p + 1)) (λ e. none (rw e at h)) λ e.
    test (ltb (length v) (p + 1 + get_or v p 0)) (λ f. none (rw (e, f) at h)) λ f.
    test (all (λ b. ltb b 2) (every_at 1 v (p + 1) (get_or v p 0))) (λ g. (rw (e, f, g) refl, ltb-false _ _ f, g)) λ g. none (rw (e, f, g) at h)

-- a constructed node has an octet behind its kind
abbrev LongEnd : List ℕ → ℕ → ℕ → Type 0
LongEnd v p k = constructed_of k ≡ true → 0 < own_end k v p → p + 1 ≤ own_end k v p

long_end : (v : List ℕ) (p k : ℕ) → LongEnd v p k
unfolding own_end
long_end v p k =
    at k 16 (LongEnd v p) (λ g h. let w = (members_is v p h).0 in omega arith) λ e₁₆.
    at k 17 (LongEnd v p) (λ g h. let w = (members_is v p h).0 in omega arith) λ e₁₇.
    at k 48 (LongEnd v p) (λ g h. let w = (fixed_is v (p + 2) h).0 in omega arith) λ e₄₈.
    at k 49 (LongEnd v p) (λ g h. let w = (fixed_is v (p + 2) h).0 in omega arith) λ e₄₉.
    at k 50 (LongEnd v p) (λ g h. let w = (fixed_is v (p + 1) h).0 in omega arith) λ e₅₀ g h.
    let (e₁, e₂, e₃, e₄, e₅, e₁₀, e₂₃, e₂₄) = not_simple k g in
    none (rw (e₁, e₂, e₃, e₄, e₅, e₁₀, e₂₃, e₂₄, e₁₆, e₁₇, e₄₈, e₄₉, e₅₀) at h)

pub built_long : (v : List ℕ) (p : ℕ) → 0 < end_at v p → constructed_of (get_or v (p + 2) 0) ≡ true → p + 4 ≤ end_at v p
built_long v p h g = let w = long_end v (p + 3) (get_or v (p + 2) 0) g (own_shaped v p h) in rw (own_end_is v p h) (omega arith)

-- flags are octets below 2
flags_each : (v : List ℕ) (q n : ℕ) → all (λ x. ltb x 2) (every_at 1 v q n) ≡ true → (k : ℕ) → k < n → get_or v (q + k) 0 < 2
unfolding all every_at
flags_each v q zero h k g = absurd (omega arith)
flags_each v q (suc n) h zero g = let z : q + 0 ≡ q = omega arith in rw z (ltb-true (get_or v q 0) 2 (both (ltb (get_or v q 0) 2) (all (λ x. ltb x 2) (every_at 1 v (q + 1) n)) h).0)
flags_each v q (suc n) h (suc k) g =
    let z : q + 1 + k ≡ q + suc k = omega arith in
    rw z at (flags_each v (q + 1) n (both (ltb (get_or v q 0) 2) (all (λ x. ltb x 2) (every_at 1 v (q + 1) n)) h).1 k (omega arith))

each_flags : (v : List ℕ) (q n : ℕ) → ((k : ℕ) → k < n → get_or v (q + k) 0 < 2) → all (λ x. ltb x 2) (every_at 1 v q n) ≡ true
unfolding all every_at
each_flags v q zero h = refl
each_flags v q (suc n) h =
    let z : q + 0 ≡ q = omega arith in
    rw (lt-ltb (get_or v q 0) 2 (rw z at (h 0 (omega arith))), each_flags v (q + 1) n (λ k g. let e : q + suc k ≡ q + 1 + k = omega arith in rw e at (h (suc k) (omega arith)))) refl

-- presence octets that are there, and whether each of their slice is below 2
module _ (v : List ℕ) (p n : ℕ) (en : n ≡ get_or v p 0) (l : p + 1 + n ≤ length v) where
  abbrev Slice : List ℕ
  Slice = take (p + 1 + n - (p + 1)) (drop (p + 1) v)

  slice_octet : (k : ℕ) → k < n → get_or Slice k 0 ≡ get_or v (p + 1 + k) 0
  slice_octet k h = get_or-take (p + 1 + n - (p + 1)) (drop (p + 1) v) k 0 (omega arith) ∙ get_or-drop (p + 1) v k 0

  slice_long : length Slice ≡ n
  slice_long = simp (length-take, length-drop) (omega arith)

  pub members_shaped : ((k : ℕ) → k < length Slice → get_or Slice k 0 < 2) → members_end v p ≡ p + 1 + n
  unfolding members_end
  members_shaped f =
      let g = each_flags v (p + 1) n (λ k h. rw (← slice_octet k h) (f k (rw slice_long h))) in
      rw (← en, le-ltb (length v) (p + 1) (omega arith), le-ltb (length v) (p + 1 + n) l, g) refl

  pub members_shapeless : (((k : ℕ) → k < length Slice → get_or Slice k 0 < 2) → ⊥) → members_end v p ≡ 0
  unfolding members_end
  members_shapeless f =
      test (all (λ x. ltb x 2) (every_at 1 v (p + 1) n))
      (λ g. absurd (f (λ k h. let h' : k < n = rw slice_long at h in rw (slice_octet k h') (flags_each v (p + 1) n g k h'))))
      λ g. rw (← en, le-ltb (length v) (p + 1) (omega arith), le-ltb (length v) (p + 1 + n) l, g) refl

pub shaped_some : (n : ℕ) → 0 < n → ◌≡◌ {A = Option ℕ} (Some n) (unless_zero n)
shaped_some n h = let e : eqb n 0 ≡ false = ne_eqb n 0 (λ z. omega arith) in rw e refl

pub members_short : (v : List ℕ) (p : ℕ) → length v < p + 1 + get_or v p 0 → members_end v p ≡ 0
unfolding members_end
members_short v p l = test (ltb (length v) (p + 1)) (λ a. rw a refl) λ a. rw (a, lt-ltb (length v) (p + 1 + get_or v p 0) l) refl

-- no own part of another constructed kind is shaped
pub end_none : (v : List ℕ) (k p : ℕ) → constructed_of k ≡ true → (t : Bool) → t ≡ (eqb k 16 || eqb k 17) → t ≡ false
    → (s : Bool) → s ≡ (eqb k 48 || eqb k 49) → s ≡ false → (k ≡ 50 → ⊥)
    → 0 ≡ own_end k v p
unfolding own_end
end_none v k p c t et h s es g f =
    let (e₁, e₂, e₃, e₄, e₅, e₁₀, e₂₃, e₂₄) = not_simple k c in
    let m = or_false (eqb k 16) (eqb k 17) (sym et ∙ h) in
    let l = or_false (eqb k 48) (eqb k 49) (sym es ∙ g) in
    rw (e₁, e₂, e₃, e₄, e₅, e₁₀, e₂₃, e₂₄, m.0, m.1, l.0, l.1, ne_eqb k 50 f) refl
