-- A node alone in its octets: when it is, by where it ends and what it is.
-- Assumes nothing.
use mathlib.Core.Bool.{Bool, true, false, not, ◌&&◌, ◌||◌}
use mathlib.Core.List.{List, [], ◌∷◌}
use mathlib.Core.Path.{◌≡◌, refl, sym, ◌∙◌}
use Prim.Native.Nat.{ℕ, suc, ◌+◌, ◌-◌, ◌≤◌, ◌<◌}
use native.Mathlib.Omega.{arith}
use borrow.Author.Tests.{le-leb, lt-leb, le-ltb, eq-eqb, ne_eqb, eqb-true, eqb-false}
use lib.Dec.{ltb, eqb}
use lib.ListN.{length, get_or, take, drop, length-drop}
use lib.Seq.{drop-cons, drop-length, length-take-le, get_or-take, get_or-drop}
use Rattle.coding.specs.declared.JudgingCause.{JudgingCause}
use Rattle.octets.proofs.Tests.{test, at, or_by}
use Rattle.octets.specs.Answer.{Answer, none_left}
use Rattle.octets.specs.Lists.{any, all}
use Rattle.octets.specs.Numbers.{two}
use Rattle.table.specs.Reading.{every_at}
use Rattle.table.specs.Fields.{constructed_of}
use Rattle.coding.specs.Judging.{Node, flags}
use Rattle.coding.specs.Reckoning.{childless, is_whole, is_lone}
use Rattle.kinds.specs.declared.Kind.{Kind}
use Rattle.kinds.specs.Kinds.{octet_of}
use Rattle.kinds.proofs.Same.{no_octet}
use Rattle.kinds.proofs.Identifiers.{no_kind_constructed}
use Rattle.writer.specs.Nodes.{fixed_end, members_end, own_end, node_of, IsMarked, Marked}
use Rattle.writer.proofs.Nodes.{leaf_node, end_none}
use Rattle.writer.proofs.Reading.{and_true, Reads, bad, good, node_reads}
use Rattle.writer.proofs.Agreement.{and_false}

-- octets of which the sum is 0
zero_sum : (a b : ℕ) (t : Bool) → (eqb a 0 && (eqb b 0 && t)) ≡ (eqb (a + b) 0 && t)
zero_sum a b t =
    test (eqb a 0)
    (λ e. let z = eqb-true a 0 e in let q : a + b ≡ b = omega arith in rw (e, q) refl)
    (λ e. let z = eqb-false a 0 e in rw (e, ne_eqb (a + b) 0 (λ s. z (omega arith))) refl)

module _ (v : List ℕ) (p n : ℕ) where
  -- n octets from p on, taken
  pub taken_long : p + n ≤ length v → length (take (p + n - p) (drop p v)) ≡ n
  taken_long h = let q : p + n - p ≡ n = omega arith in let l = length-drop p v in rw q (length-take-le n (drop p v) (omega arith))

  pub taken_is : (i x : ℕ) → i < n → x ≡ get_or (take (p + n - p) (drop p v)) i 0 → x ≡ get_or v (p + i) 0
  taken_is i x h e = let q : p + n - p ≡ n = omega arith in e ∙ rw (q, get_or-take n (drop p v) i 0 h, get_or-drop p v i 0) refl

  module _ (i sum : ℕ) (w : Bool) (e : (eqb sum 0 && all (λ x. eqb x 0) (every_at 1 v (p + i) (n - i))) ≡ w) where
    pub zero_turn : (x : ℕ) → i < n → x ≡ get_or v (p + i) 0 → (eqb (sum + x) 0 && all (λ x. eqb x 0) (every_at 1 v (p + (i + 1)) (n - (i + 1)))) ≡ w
    unfolding every_at all
    zero_turn x h g =
        let q : n - i ≡ suc (n - (i + 1)) = omega arith in
        let r : p + (i + 1) ≡ p + i + 1 = omega arith in
        rw (r, g) (sym (zero_sum sum (get_or v (p + i) 0) (all (λ x. eqb x 0) (every_at 1 v (p + i + 1) (n - (i + 1))))) ∙ rw q at e)

    pub zero_end : n ≤ i → eqb sum 0 ≡ w
    unfolding every_at all
    zero_end h = let q : n - i ≡ 0 = omega arith in sym (and_true (eqb sum 0)) ∙ rw q at e

-- octets that are 0 are flags, none of which is up
abbrev ZeroFlag : Bool → Bool → Bool → ℕ → Type 0
ZeroFlag zeros shaped up x = (eqb x 0 && zeros) ≡ ((ltb x 2 && shaped) && not (eqb x 1 || up))

zero_flag : (zeros shaped up : Bool) → zeros ≡ (shaped && not up) → (x : ℕ) → ZeroFlag zeros shaped up x
zero_flag zeros shaped up i x =
    at x 0 (ZeroFlag zeros shaped up) i λ e₀.
    at x 1 (ZeroFlag zeros shaped up) (sym (and_false shaped)) λ e₁.
    let a = eqb-false x 0 e₀ in
    let b = eqb-false x 1 e₁ in
    rw (e₀, le-ltb x 2 (omega (arith, a, b))) refl

zero_flags : (s : List ℕ) → all (λ x. eqb x 0) s ≡ (all (λ b. ltb b 2) s && not (any (λ b. b) (flags s)))
unfolding all any flags
zero_flags [] = refl
zero_flags (x ∷ s) = zero_flag (all (λ x. eqb x 0) s) (all (λ b. ltb b 2) s) (any (λ b. b) (flags s)) (zero_flags s) x

-- own parts at p that end the octets: members of which none is present, a list without elements
abbrev Members : List ℕ → ℕ → Bool
Members v p = eqb (members_end v p) (length v) && not (any (λ b. b) (flags (every_at 1 v (p + 1) (get_or v p 0))))

abbrev Elements : List ℕ → ℕ → Bool
Elements v p = eqb (fixed_end v (p + 2)) (length v) && eqb (two v p) 0

module _ (v : List ℕ) (p : ℕ) (some : 0 < length v) where
  no_end : eqb 0 (length v) ≡ false
  no_end = ne_eqb 0 (length v) (λ e. omega arith)

  module _ (n : ℕ) (en : n ≡ get_or v p 0) where
    pub members_behind : (length v ≡ p + 1 + n → ⊥) → false ≡ Members v p
    unfolding members_end
    members_behind h =
        test (ltb (length v) (p + 1)) (λ a. rw (a, no_end) refl) λ a.
        test (ltb (length v) (p + 1 + get_or v p 0)) (λ b. rw (a, b, no_end) refl) λ b.
        test (all (λ b. ltb b 2) (every_at 1 v (p + 1) (get_or v p 0)))
        (λ c. rw (a, b, c, ne_eqb (p + 1 + get_or v p 0) (length v) (λ z. h (sym z ∙ rw en refl))) refl)
        (λ c. rw (a, b, c, no_end) refl)

    pub members_zero : length v ≡ p + 1 + n → (r : Bool) → r ≡ all (λ x. eqb x 0) (every_at 1 v (p + 1) n) → r ≡ Members v p
    unfolding members_end
    members_zero h r er =
        let l : length v ≡ p + 1 + get_or v p 0 = h ∙ rw en refl in
        let q : all (λ x. eqb x 0) (every_at 1 v (p + 1) n) ≡ all (λ x. eqb x 0) (every_at 1 v (p + 1) (get_or v p 0)) = rw en refl in
        er ∙ q ∙ zero_flags (every_at 1 v (p + 1) (get_or v p 0)) ∙
        rw (le-ltb (length v) (p + 1) (omega arith), le-ltb (length v) (p + 1 + get_or v p 0) (omega arith))
        (test (all (λ b. ltb b 2) (every_at 1 v (p + 1) (get_or v p 0)))
        (λ c. rw (c, eq-eqb (p + 1 + get_or v p 0) (length v) (sym l)) refl)
        (λ c. rw (c, no_end) refl))

  pub elements_behind : (length v ≡ p + 2 → ⊥) → false ≡ Elements v p
  unfolding fixed_end
  elements_behind h =
      test (ltb (length v) (p + 2)) (λ a. rw (a, no_end) refl) λ a. rw (a, ne_eqb (p + 2) (length v) (λ z. h (sym z))) refl

  pub elements_none : length v ≡ p + 2 → (n : ℕ) → n ≡ two v p → eqb n 0 ≡ Elements v p
  unfolding fixed_end
  elements_none h n en = rw (le-ltb (length v) (p + 2) (omega arith), eq-eqb (p + 2) (length v) (sym h), en) refl

-- the end of the octets
none_behind : (v : List ℕ) (e : ℕ) → e ≤ length v → none_left (drop e v) ≡ eqb e (length v)
unfolding none_left
none_behind v e h =
    test (eqb e (length v))
    (λ t. rw (t, eqb-true e (length v) t, drop-length v) refl)
    (λ t. let z = eqb-false e (length v) t in rw (t, drop-cons v e 0 (omega (arith, z))) refl)

whole_is : {v : List ℕ} {l p : ℕ} {x : Node} {e : ℕ} {a : Answer JudgingCause Node} → 0 < length v → Reads v l p x e a → is_whole a ≡ (eqb e (length v) && childless x)
unfolding is_whole
whole_is {v = v} h bad = rw (ne_eqb 0 (length v) (λ z. omega arith)) refl
whole_is {v = v} h (good e _ k) = rw (none_behind v e k) refl

not_whole : {v : List ℕ} {l p : ℕ} {x : Node} {e : ℕ} {a : Answer JudgingCause Node} → 0 < p → e ≡ 0 → Reads v l p x e a → is_whole a ≡ false
unfolding is_whole
not_whole h z bad = refl
not_whole h z (good e k _) = absurd (omega arith)

-- whether the node of kind k with its own part at p is alone
module _ (v : List ℕ) (p : ℕ) where
  abbrev Alone : ℕ → Bool
  Alone k = eqb (own_end k v p) (length v) && childless (node_of k v p)

  alone_leaf : (k : ℕ) → constructed_of k ≡ false → Alone k ≡ eqb (own_end k v p) (length v)
  unfolding childless
  alone_leaf k c = rw (leaf_node k v p c) (and_true (eqb (own_end k v p) (length v)))

  alone_members : (k : ℕ) → (eqb k 16 || eqb k 17) ≡ true → Alone k ≡ Members v p
  unfolding own_end node_of childless
  alone_members k h = or_by (eqb k 16) (eqb k 17) h (λ a. rw (eqb-true k 16 a) refl) λ a. rw (eqb-true k 17 a) refl

  alone_list : (k : ℕ) → (eqb k 48 || eqb k 49) ≡ true → Alone k ≡ Elements v p
  unfolding own_end node_of childless
  alone_list k h = or_by (eqb k 48) (eqb k 49) h (λ a. rw (eqb-true k 48 a) refl) λ a. rw (eqb-true k 49 a) refl

  alone_choice : Alone 50 ≡ false
  unfolding node_of childless
  alone_choice = and_false (eqb (own_end 50 v p) (length v))

  -- a CHOICE, or no kind
  alone_none : 0 < length v → (k : ℕ) → constructed_of k ≡ true → (eqb k 16 || eqb k 17) ≡ false → (eqb k 48 || eqb k 49) ≡ false → Alone k ≡ false
  alone_none some k c m l =
      test (eqb k 50) (λ a. rw (eqb-true k 50 a) alone_choice) λ a.
      rw (← end_none v k p c false (sym m) refl false (sym l) refl (eqb-false k 50 a), ne_eqb 0 (length v) (λ z. omega arith)) refl

-- whether a node is alone: the ways out
module _ (v : List ℕ) where
  pub lone_long : 16384 < length v → false ≡ is_lone v
  unfolding is_lone
  lone_long h = rw (lt-leb (length v) 16384 h) refl

  module _ (h : length v ≤ 16384) where
    pub lone_unmarked : (t : Bool) → Marked v 0 t → t ≡ false → false ≡ is_lone v
    unfolding is_lone
    lone_unmarked t m e = rw (le-leb (length v) 16384 h, not_whole (omega arith) (m.no e) (node_reads v 0 (omega arith))) refl

    module _ (m : IsMarked v 0) where
      some : 0 < length v
      some = let l = m.0 in omega arith

      abbrev kind : ℕ
      kind = get_or v 2 0

      lone_is : is_lone v ≡ Alone v 3 kind
      unfolding is_lone
      lone_is = rw (le-leb (length v) 16384 h) (whole_is some (node_reads v 0 (omega arith)) ∙ rw m.1 refl)

      pub lone_leaf : constructed_of kind ≡ false → (e : ℕ) → e ≡ own_end kind v 3 → eqb e (length v) ≡ is_lone v
      lone_leaf c e q = rw q (sym (alone_leaf v 3 kind c)) ∙ sym lone_is

      pub lone_unshaped : constructed_of kind ≡ false → own_end kind v 3 ≡ 0 → false ≡ is_lone v
      lone_unshaped c q = let l = some in sym (ne_eqb 0 (length v) (λ z. omega arith)) ∙ lone_leaf c 0 (sym q)

      pub lone_members : (eqb kind 16 || eqb kind 17) ≡ true → (r : Bool) → r ≡ Members v 3 → r ≡ is_lone v
      lone_members k r e = e ∙ sym (alone_members v 3 kind k) ∙ sym lone_is

      pub lone_list : (eqb kind 48 || eqb kind 49) ≡ true → (r : Bool) → r ≡ Elements v 3 → r ≡ is_lone v
      lone_list k r e = e ∙ sym (alone_list v 3 kind k) ∙ sym lone_is

      pub lone_none : constructed_of kind ≡ true → (eqb kind 16 || eqb kind 17) ≡ false → (eqb kind 48 || eqb kind 49) ≡ false → false ≡ is_lone v
      lone_none c k l = sym (lone_is ∙ alone_none v 3 some kind c k l)

      pub lone_no_kind : ((j : Kind) → octet_of j ≡ kind → ⊥) → false ≡ is_lone v
      lone_no_kind h =
          let (e₁, e₂, e₃, e₄, e₅, e₁₀, e₂₃, e₂₄, e₁₆, e₁₇, e₄₈, e₄₉, e₅₀) = no_octet kind h in
          lone_none (no_kind_constructed kind h) (rw (e₁₆, e₁₇) refl) (rw (e₄₈, e₄₉) refl)
