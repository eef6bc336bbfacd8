-- First tags by their codes: the index tells which record stands for a first tag, and which records have none.
-- Assumes nothing.
use mathlib.Core.Bool.{Bool, true, false, ◌||◌}
use mathlib.Core.List.{List, [], ◌∷◌}
use mathlib.Core.Path.{◌≡◌, refl, sym, ap, ◌∙◌}
use Prim.Native.Nat.{ℕ, zero, suc, ◌+◌, ◌-◌, ◌*◌, ◌/◌, ◌%◌, ◌≤◌, ◌<◌}
use native.Mathlib.Omega.{arith}
use lib.Dec.{eqb, ltb, leb}
use lib.ListN.{length, get_or}
use borrow.Author.Tests.{eqb-true, eqb-false, eq-eqb, ne_eqb, ltb-true, ltb-false, leb-true}
use Rattle.octets.specs.Lists.{all, lowest}
use Rattle.octets.specs.Numbers.{Octets, two}
use Rattle.octets.proofs.Tests.{test}
use Rattle.octets.proofs.Lists.{both}
use Rattle.octets.proofs.Search.{lowest_most}
use Rattle.x690.specs.Identifier.{bit}
use Rattle.ber.specs.Codes.{code}
use Rattle.ber.proofs.Codes.{bit_small, code_short, code_long}
use Rattle.table.specs.Syntax.{Tag, Record, Table, constructed}
use Rattle.table.specs.Octets.{record_shaped}
use Rattle.table.specs.Rules.{tags_below}
use Rattle.table.specs.Reading.{tags_at, table_in}
use Rattle.table.specs.Decide.{same_tag, begins}
use Rattle.table.specs.Walk.{same_outermost, like}
use Rattle.table.proofs.Loops.{lowest_same}
use Rattle.table.proofs.Nodes.{like_untagged}
use Rattle.table.proofs.Reading.{limits}
use Rattle.records.specs.Entries.{unpacked, untagged, more, outermost_code, Entered}
use Rattle.records.specs.Descriptors.{entry_of, described, Listed}
use Rattle.records.specs.declared.entry.Entry.{Entry}
use Rattle.records.proofs.Entries.{code_small}
use Rattle.checker.specs.Gathering.{tag_of, like_in}

-- a code by its number
by_number : {X : Type 0} (n : ℕ) → (n < 31 → X) → (31 ≤ n → X) → X
by_number n f g = test (ltb n 31) (λ e. f (ltb-true n 31 e)) λ e. g (ltb-false n 31 e)

-- the first tag as a number: the code of the primitive form
tag_short : (c d n : ℕ) → d ≤ 1 → n < 32 → tag_of (c * 64 + d * 32 + n) ≡ c * 64 + n
tag_short c d n h l = let q : (c * 64 + d * 32 + n) / 32 ≡ c * 2 + d = omega arith in rw q (omega arith)

tag_of_lem : (c : ℕ) (k : Bool) (n : ℕ) → c < 4 → tag_of (code c k n) ≡ code c false n
tag_of_lem c k n h =
    by_number n
    (λ i. rw (code_short c k n i, code_short c false n i) (tag_short c (bit k) n (bit_small k) (omega arith) ∙ omega arith))
    λ i.
    let q : c * 64 + bit k * 32 + 31 + 256 * n ≡ (c + 4 * n) * 64 + bit k * 32 + 31 = omega arith in
    rw (code_long c k n i, code_long c false n i, q) (tag_short (c + 4 * n) (bit k) 31 (bit_small k) (omega arith) ∙ omega arith)

classed_same : (c d n m : ℕ) → c < 4 → d < 4 → c + 4 * n ≡ d + 4 * m → (c ≡ d) × (n ≡ m)
classed_same c d n m h l e =
    let p : (c + 4 * n) % 4 ≡ c = omega arith in
    let q : (d + 4 * m) % 4 ≡ d = omega arith in
    let r : c ≡ d = sym p ∙ ap (λ x. x % 4) e ∙ q in
    (r, omega arith)

code_same : (c d n m : ℕ) → c < 4 → d < 4 → code c false n ≡ code d false m → (c ≡ d) × (n ≡ m)
code_same c d n m h l e =
    by_number n
    (λ i. by_number m
    (λ j. let p = code_short c false n i in let q = code_short d false m j in (omega arith, omega arith))
    λ j. let p = code_short c false n i in let q = code_long d false m j in (absurd (omega arith), absurd (omega arith)))
    λ i. by_number m
    (λ j. let p = code_long c false n i in let q = code_short d false m j in (absurd (omega arith), absurd (omega arith)))
    λ j. let p = code_long c false n i in let q = code_long d false m j in classed_same c d n m h l (omega arith)

tags_head : (b : List ℕ) (p n : ℕ) (g : Tag) (gs : List Tag) → tags_at b p n ≡ g ∷ gs → g.number ≡ two b (p + 1)
unfolding tags_at
tags_head b p zero g gs e = let z : ◌≡◌ {A = ℕ} 0 1 = cc in absurd (omega arith)
tags_head b p (suc n) g gs e = ap (λ h. h.number) (sym (head e))
  where
    head : {x y : Tag} {xs ys : List Tag} → x ∷ xs ≡ y ∷ ys → x ≡ y
    head q = cc

-- what is so of the first tag of a record, by its entry
record Fronted (e : Entry) (g : Tag) : Type 0 where
  low : g.class < 4
  small : g.number < 65536
  is : tag_of e.code ≡ code g.class false g.number

module _ {b : List ℕ} {e : Entry} {r : Record} (o : Octets b) (x : Entered b e r) (s : record_shaped r ≡ true) where
  fronted : (g : Tag) (gs : List Tag) → r.tags ≡ g ∷ gs → Fronted e g
  unfolding all outermost_code
  fronted g gs t =
      let c = leb-true g.class 3 (both (leb g.class 3) _ (rw t at (limits r s).classed)).0 in
      let n = tags_head b _ _ g gs (x.tags ∙ t) in
      let l = o (e.own - 3 * length r.tags + 1) in
      let h = o (e.own - 3 * length r.tags + 1 + 1) in
      record {
        low = omega arith;
        small = omega arith;
        is = ap (λ z. tag_of z) (rw t at x.code) ∙ tag_of_lem g.class (more gs || constructed r.body) g.number (omega arith);
      }

  -- the entries without an identifier are those of the records without tags
  pub code_none : e.code ≡ untagged → r.tags ≡ []
  code_none q = by r.tags refl
    where
      by : (gs : List Tag) → r.tags ≡ gs → r.tags ≡ []
      by [] t = t
      by (g ∷ gs) t =
          let f = fronted g gs t in
          absurd (omega (arith, code_small g.class false g.number (omega arith) f.small, f.is, ap (λ z. tag_of z) q))

pub code_some : {b : List ℕ} {e : Entry} {r : Record} → Entered b e r → r.tags ≡ [] → e.code ≡ untagged
unfolding outermost_code
code_some x t = rw t at x.code

-- with an identifier nothing stands below
pub below_none : {b : List ℕ} {e : Entry} {r : Record} → Entered b e r → (e.code ≡ untagged → ⊥) → tags_below r.tags r.body ≡ []
unfolding tags_below
below_none {r = r} x c = by r.tags refl
  where
    by : (gs : List Tag) → r.tags ≡ gs → tags_below r.tags r.body ≡ []
    by [] t = absurd (c (code_some x t))
    by (g ∷ gs) t = rw t

-- two records begin alike where their codes do
code_test : (e f : Entry) (g h : Tag) → Fronted e g → Fronted f h → eqb (tag_of e.code) (tag_of f.code) ≡ same_tag g h
unfolding same_tag
code_test e f g h x y =
    let p = code g.class false g.number in
    let q = code h.class false h.number in
    rw (x.is, y.is) (test (eqb p q)
    (λ i. let (c, n) = code_same g.class h.class g.number h.number x.low y.low (eqb-true p q i) in
    rw (i, eq-eqb g.class h.class c, eq-eqb g.number h.number n))
    λ i. test (eqb g.class h.class)
    (λ c. test (eqb g.number h.number)
    (λ n. absurd (eqb-false p q i (rw (eqb-true g.class h.class c, eqb-true g.number h.number n))))
    λ n. rw (i, c, n))
    λ c. rw (i, c))

module _ {b : List ℕ} {e : Entry} {r : Record} (o : Octets b) (x : Entered b e r) (s : record_shaped r ≡ true) where
  front_test : (f : Entry) (g : Tag) (gs : List Tag) → Fronted f g → eqb (tag_of e.code) (tag_of f.code) ≡ same_outermost r.tags (g ∷ gs)
  unfolding same_outermost begins
  front_test f g gs y = by r.tags refl
    where
      by : (hs : List Tag) → r.tags ≡ hs → eqb (tag_of e.code) (tag_of f.code) ≡ same_outermost r.tags (g ∷ gs)
      by [] t =
          rw (
            t,
            code_some x t,
            ne_eqb untagged (tag_of f.code) (λ z.
                omega (arith, z, y.is, code_small g.class false g.number (omega arith) y.small)),
          )
      by (h ∷ hs) t = rw t (code_test e f h g (fronted o x s h hs t) y)

module _ (b index : List ℕ) (n : ℕ) (o : Octets b) (x : Listed b index n) (t : ℕ) (h : t < n) where
  pub like_in_lem : like_in index t ≡ like (table_in b) t
  unfolding like_in like described
  like_in_lem = by (table_in b t).tags refl
    where
      T : Table
      T = table_in b

      by : (gs : List Tag) → (T t).tags ≡ gs → like_in index t ≡ like T t
      by [] q = rw (code_some (x.describes t h).entered q) (sym (like_untagged T t q))
      by (g ∷ gs) q =
          let f = fronted o (x.describes t h).entered (x.shaped t h) g gs q in
          rw (ne_eqb (tag_of (unpacked (get_or index t 0)).code) untagged
          (λ z. omega (arith, z, f.is, code_small g.class false g.number (omega arith) f.small)))
          (lowest_same _ (λ u. same_outermost (T u).tags (T t).tags) t
          (λ u l. rw q (front_test o (x.describes u (omega arith)).entered (x.shaped u (omega arith)) (entry_of (described (get_or index t 0))) g gs f)))

pub like_in_low : (index : List ℕ) (t : ℕ) → like_in index t ≤ t
unfolding like_in
like_in_low index t =
    test (eqb (tag_of (unpacked (get_or index t 0)).code) untagged) (λ e. rw e (omega arith)) λ e.
    rw e (lowest_most (λ u. eqb (tag_of (unpacked (get_or index u 0)).code) (tag_of (unpacked (get_or index t 0)).code)) t)

-- the ways through the search for the record that stands for a first tag
module _ (index : List ℕ) (t : ℕ) {g : ℕ} (d : g ≡ tag_of (unpacked (get_or index t 0)).code) where
  pub like_none : g ≡ untagged → t ≡ like_in index t
  unfolding like_in
  like_none e = rw (← d, eq-eqb g untagged e)

  pub like_some : (g ≡ untagged → ⊥) → {u : ℕ} → u ≡ lowest (λ w. eqb (tag_of (unpacked (get_or index w 0)).code) g) t → u ≡ like_in index t
  unfolding like_in
  like_some e q = rw (← d, ne_eqb g untagged e) q
