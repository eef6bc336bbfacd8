-- The rules over what an entry of the index says: its parts, what stands below it, its tags, and whether it has a finite value.
-- Assumes nothing.
use mathlib.Core.Bool.{Bool, true, false, not, ◌&&◌, ◌||◌, true≢false, false≢true}
use mathlib.Core.List.{List, [], ◌∷◌}
use mathlib.Core.Logic.{inl, inr}
use mathlib.Core.Path.{◌≡◌, refl, sym, ap, ◌∙◌}
use Prim.Native.Nat.{ℕ, zero, suc, ◌+◌, ◌-◌, ◌*◌, ◌≤◌, ◌<◌}
use native.Mathlib.Omega.{arith}
use lib.Dec.{eqb}
use lib.ListN.{length, get_or}
use borrow.Author.Tests.{ne_eqb, not-true}
use Rattle.octets.specs.Lists.{any, all}
use Rattle.octets.specs.Numbers.{Octets, two}
use Rattle.octets.proofs.Tests.{test}
use Rattle.table.specs.Syntax.{Tag, Body, Plain, Sequence, Set, SequenceOf, SetOf, Choice, Record, absent, references, is_choice, universal, constructed}
use Rattle.table.specs.Rules.{Mistagged, missing, body_below, tags_below}
use Rattle.table.specs.Reading.{members_at, every_at, tags_at, scan, table_in}
use Rattle.table.specs.Decide.{wrong_tags, finite_body}
use Rattle.table.specs.Fields.{universal_of}
use Rattle.table.proofs.Fields.{universal_of_lem}
use Rattle.table.proofs.Scan.{look_beyond}
use Rattle.kinds.specs.Kinds.{octet_of}
use Rattle.records.specs.Entries.{unpacked, all_but_last, explicit_count, tag_place, has_members, counted, span_of, Entered, Near}
use Rattle.records.specs.Descriptors.{described, Describes, Listed}
use Rattle.records.specs.declared.entry.Entry.{Entry}
use Rattle.records.specs.declared.descriptor.Descriptor.{Descriptor}
use Rattle.records.specs.declared.entry.Span.{Span}
use Rattle.records.proofs.Entries.{kind_choice, kind_members, entered_members, entered_span, entered_choice, entered_tags}

-- what a count stands before lies near, and so does the span of any kind
pub near_counted : (b : List ℕ) (p step : ℕ) → Octets b → p < 65536 → step < 3 → Near (counted b p step)
near_counted b p step o h l = record { near = omega arith; few = o p; close = l }

pub near_span : (b : List ℕ) (k p : ℕ) → Octets b → p < 65536 → Near (span_of b k p)
unfolding span_of
near_span b k p o h =
    test (eqb k 16 || eqb k 17) (λ e. rw e (near_counted b p 2 o h (omega arith))) λ e₁.
    test (eqb k 50) (λ e. rw (e₁, e) (near_counted b p 1 o h (omega arith))) λ e₂.
    test (eqb k 48 || eqb k 49) (λ e. rw (e₁, e₂, e) (record { near = omega arith; few = omega arith; close = omega arith })) λ e₃.
    rw (e₁, e₂, e₃) (record { near = omega arith; few = omega arith; close = omega arith })

-- the rule of the tags of a CHOICE, and of another kind with one tag or more
wrong_choice : (y : Body) → is_choice y ≡ true → (b : List ℕ) (p n : ℕ) → wrong_tags y (tags_at b p n) ≡ any (λ c. eqb c 0) (every_at 3 b p n)
unfolding wrong_tags tags_at every_at any
wrong_choice y c b p zero = rw c
wrong_choice y c b p (suc zero) = rw c (test (eqb (get_or b p 0) 0) (λ e. rw e) λ e. rw e)
wrong_choice y c b p (suc (suc n)) = ap (λ t. eqb (get_or b p 0) 0 || t) (wrong_choice y c b (p + 3) (suc n))

-- the tag at p is a UNIVERSAL one that is not its kind's
abbrev pub wrong_own : List ℕ → ℕ → ℕ → Bool
wrong_own b u p = eqb (get_or b p 0) 0 && not (eqb (two b (p + 1)) u)

wrong_other : (y : Body) → is_choice y ≡ false → (b : List ℕ) (p n : ℕ)
    → wrong_tags y (tags_at b p (suc n)) ≡ (any (λ c. eqb c 0) (every_at 3 b p n) || wrong_own b (universal y) (p + 3 * n))
unfolding wrong_tags tags_at every_at any
wrong_other y c b p zero = let q : p + 3 * 0 ≡ p = omega arith in rw (q, c)
wrong_other y c b p (suc n) =
    let q : p + 3 * suc n ≡ p + 3 + 3 * n = omega arith in
    rw q (test (eqb (get_or b p 0) 0) (λ e. rw e) λ e. rw e (wrong_other y c b (p + 3) n))

-- the tags before the last, and the place of the last
last_left : (n m k : ℕ) → m ≡ suc n → k ≡ all_but_last m → k ≡ n
last_left n m k l e = let q = rw (l, ne_eqb (suc n) 0 (λ z. omega arith)) at e in omega arith

tag_places : (own m n : ℕ) → m ≡ suc n → 3 * m ≤ own
    → (own - 3 * suc n ≡ own - 3 * (m - 0)) × (own - 3 * (m - 0) + 3 * n ≡ own - 3 * (m - n))
tag_places own m n l h = (omega arith, omega arith)

-- the rule over what an entry says
data Ruled (b : List ℕ) (e : Entry) (w : Bool) : Type 0 where
  of_choice : eqb e.kind 50 ≡ true → (e.explicit ≡ 127 → ⊥) → w ≡ any (λ c. eqb c 0) (every_at 3 b (tag_place e 0) e.explicit) → Ruled b e w
  lacking : e.explicit ≡ 127 → w ≡ true → Ruled b e w
  of_other : eqb e.kind 50 ≡ false → (e.explicit ≡ 127 → ⊥)
      → w ≡ (any (λ c. eqb c 0) (every_at 3 b (tag_place e 0) e.explicit) || wrong_own b (universal_of e.kind) (tag_place e e.explicit)) → Ruled b e w

module _ {b : List ℕ} {e : Entry} {r : Record} (x : Entered b e r) where
  -- a record without tags that keeps the rule of tags is a CHOICE
  pub entered_below : r.tags ≡ [] → (Mistagged r → ⊥) → tags_below r.tags r.body ≡ every_at 1 b (e.own + 1) (get_or b e.own 0)
  unfolding tags_below body_below is_choice
  entered_below t m = by r.body refl
    where
      by : (y : Body) → r.body ≡ y → tags_below r.tags r.body ≡ every_at 1 b (e.own + 1) (get_or b e.own 0)
      by (Plain s) q = absurd (m (missing t (rw q)))
      by (Sequence ms) q = absurd (m (missing t (rw q)))
      by (Set ms) q = absurd (m (missing t (rw q)))
      by (SequenceOf u) q = absurd (m (missing t (rw q)))
      by (SetOf u) q = absurd (m (missing t (rw q)))
      by (Choice ts) q = rw (t, q) (sym (entered_choice x ts q).is)

  -- a simple record names no other
  pub none_named : (f : ℕ → Bool) → e.simple ≡ true → false ≡ any f (references r.body)
  unfolding constructed references any
  none_named f i = by r.body refl
    where
      k : constructed r.body ≡ false
      k = not-true _ (sym x.simple ∙ i)

      by : (y : Body) → r.body ≡ y → false ≡ any f (references r.body)
      by (Plain s) q = rw q
      by (Sequence ms) q = absurd (true≢false (rw q at k))
      by (Set ms) q = absurd (true≢false (rw q at k))
      by (SequenceOf u) q = absurd (true≢false (rw q at k))
      by (SetOf u) q = absurd (true≢false (rw q at k))
      by (Choice ts) q = absurd (true≢false (rw q at k))

  -- the ways through the code that finds a finite value
  module _ (m : ℕ → Bool) where
    pub finite_members : (eqb e.kind 16 || eqb e.kind 17) ≡ true
        → let s = span_of b e.kind e.own in all (λ y. y.optional || m y.type) (members_at b s.first s.count) ≡ finite_body m r.body
    unfolding has_members finite_body
    finite_members h = by r.body refl
      where
        k : has_members r.body ≡ true
        k = sym (kind_members x) ∙ h

        by : (y : Body) → r.body ≡ y
            → let s = span_of b e.kind e.own in all (λ y. y.optional || m y.type) (members_at b s.first s.count) ≡ finite_body m r.body
        by (Plain s) q = absurd (false≢true (rw q at k))
        by (Sequence ms) q = let w = entered_members x ms (inl q) in rw (w.span, w.is, q)
        by (Set ms) q = let w = entered_members x ms (inr q) in rw (w.span, w.is, q)
        by (SequenceOf u) q = absurd (false≢true (rw q at k))
        by (SetOf u) q = absurd (false≢true (rw q at k))
        by (Choice ts) q = absurd (false≢true (rw q at k))

    pub finite_choice : eqb e.kind 50 ≡ true → any m (every_at 1 b (e.own + 1) (get_or b e.own 0)) ≡ finite_body m r.body
    unfolding is_choice finite_body
    finite_choice h = by r.body refl
      where
        k : is_choice r.body ≡ true
        k = sym (kind_choice x) ∙ h

        by : (y : Body) → r.body ≡ y → any m (every_at 1 b (e.own + 1) (get_or b e.own 0)) ≡ finite_body m r.body
        by (Plain s) q = absurd (false≢true (rw q at k))
        by (Sequence ms) q = absurd (false≢true (rw q at k))
        by (Set ms) q = absurd (false≢true (rw q at k))
        by (SequenceOf u) q = absurd (false≢true (rw q at k))
        by (SetOf u) q = absurd (false≢true (rw q at k))
        by (Choice ts) q = rw ((entered_choice x ts q).is, q)

    pub finite_other : (eqb e.kind 16 || eqb e.kind 17) ≡ false → eqb e.kind 50 ≡ false → true ≡ finite_body m r.body
    unfolding has_members is_choice finite_body
    finite_other h i = by r.body refl
      where
        by : (y : Body) → r.body ≡ y → true ≡ finite_body m r.body
        by (Plain s) q = rw q
        by (Sequence ms) q = absurd (true≢false (rw q at (sym (kind_members x) ∙ h)))
        by (Set ms) q = absurd (true≢false (rw q at (sym (kind_members x) ∙ h)))
        by (SequenceOf u) q = rw q
        by (SetOf u) q = rw q
        by (Choice ts) q = absurd (true≢false (rw q at (sym (kind_choice x) ∙ i)))

  rule_of_choice : is_choice r.body ≡ true → Ruled b e (wrong_tags r.body r.tags)
  unfolding explicit_count
  rule_of_choice c =
      let n : e.explicit ≡ length r.tags = rw c at x.explicit in
      let q : length r.tags - 0 ≡ length r.tags = omega arith in
      of_choice (kind_choice x ∙ c) (λ z. omega (arith, z, n, x.few))
      (rw (entered_tags x, n, q) (rw x.tags at (wrong_choice r.body c b (e.own - 3 * length r.tags) (length r.tags))))

  all_but_last_lem : is_choice r.body ≡ false → e.explicit ≡ all_but_last (length r.tags)
  unfolding explicit_count
  all_but_last_lem c = rw c at x.explicit

  rule_of_none : is_choice r.body ≡ false → r.tags ≡ [] → Ruled b e (wrong_tags r.body r.tags)
  unfolding wrong_tags
  rule_of_none c t = lacking (rw t at (all_but_last_lem c)) (rw (t, c))

  rule_of_some : (n : ℕ) → is_choice r.body ≡ false → length r.tags ≡ suc n → Ruled b e (wrong_tags r.body r.tags)
  rule_of_some n c l =
      let k = last_left n (length r.tags) e.explicit l (all_but_last_lem c) in
      let (p, q) = tag_places e.own (length r.tags) n l x.behind in
      let d : tags_at b (e.own - 3 * suc n) (suc n) ≡ r.tags = ap (λ m. tags_at b (e.own - 3 * m) m) (sym l) ∙ x.tags in
      let u = rw x.body at (universal_of_lem b e.kind e.own) in
      let w = rw (d, p, q, u) at (wrong_other r.body c b (e.own - 3 * suc n) n) in
      of_other (kind_choice x ∙ c) (λ z. omega (arith, z, k, l, x.few)) (rw (entered_tags x, k) w)

  rule_of_other : is_choice r.body ≡ false → Ruled b e (wrong_tags r.body r.tags)
  rule_of_other c = by r.tags refl
    where
      by : (gs : List Tag) → r.tags ≡ gs → Ruled b e (wrong_tags r.body r.tags)
      by [] t = rule_of_none c t
      by (g ∷ gs) t = rule_of_some (length gs) c (ap length t)

  ruled : Ruled b e (wrong_tags r.body r.tags)
  ruled = test (is_choice r.body) rule_of_choice rule_of_other

  -- the ways through the code of the rule
  pub wrong_lacking : e.explicit ≡ 127 → true ≡ wrong_tags r.body r.tags
  wrong_lacking l = by ruled
    where
      by : {w : Bool} → Ruled b e w → true ≡ w
      by (of_choice k n q) = absurd (n l)
      by (lacking n q) = sym q
      by (of_other k n q) = absurd (n l)

  module _ (l : e.explicit ≡ 127 → ⊥) where
    pub wrong_explicit : any (λ c. eqb c 0) (every_at 3 b (tag_place e 0) e.explicit) ≡ true → true ≡ wrong_tags r.body r.tags
    wrong_explicit h = by ruled
      where
        by : {w : Bool} → Ruled b e w → true ≡ w
        by (of_choice k n q) = sym (q ∙ h)
        by (lacking n q) = sym q
        by (of_other k n q) = sym (q ∙ rw h)

    module _ (h : any (λ c. eqb c 0) (every_at 3 b (tag_place e 0) e.explicit) ≡ false) where
      pub wrong_none : eqb e.kind 50 ≡ true → false ≡ wrong_tags r.body r.tags
      wrong_none i = by ruled
        where
          by : {w : Bool} → Ruled b e w → false ≡ w
          by (of_choice k n q) = sym (q ∙ h)
          by (lacking n q) = absurd (l n)
          by (of_other k n q) = absurd (true≢false (sym i ∙ k))

      pub wrong_own_lem : eqb e.kind 50 ≡ false → wrong_own b (universal_of e.kind) (tag_place e e.explicit) ≡ wrong_tags r.body r.tags
      wrong_own_lem i = by ruled
        where
          by : {w : Bool} → Ruled b e w → wrong_own b (universal_of e.kind) (tag_place e e.explicit) ≡ w
          by (of_choice k n q) = absurd (true≢false (sym k ∙ i))
          by (lacking n q) = absurd (l n)
          by (of_other k n q) = sym (q ∙ rw h)

-- behind the records of an index there are none
pub filled_beyond : {b index : List ℕ} {n : ℕ} → Listed b index n → (t : ℕ) → n ≤ t → table_in b t ≡ absent
filled_beyond {b} x t h = look_beyond b (scan b).offsets t x.short (rw x.count at h)

-- the entry that the code reads for record t, and what its parts span
module _ {b index : List ℕ} {n : ℕ} (x : Listed b index n) (t : ℕ) (h : t < n) {e : Descriptor} (d : e ≡ described (get_or index t 0)) where
  pub entry_at : Describes b e (table_in b t)
  entry_at = rw d (x.describes t h)

  pub span_near : Octets b → {s : Span} → s ≡ span_of b (octet_of e.kind) e.own → Near s
  unfolding described unpacked
  span_near o q = rw q (near_span b (octet_of e.kind) e.own o (rw d (omega arith)))

  pub span_named : {s : Span} → s ≡ span_of b (octet_of e.kind) e.own → every_at s.step b s.first s.count ≡ references (table_in b t).body
  span_named q = rw q (entered_span entry_at.entered)
