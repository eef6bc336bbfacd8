-- What stands for the records with one outermost tag, and how hits agree with first tags and with what is reached.
-- Assumes nothing.
use mathlib.Core.Bool.{true, true≢false}
use mathlib.Core.List.{List, [], ◌∷◌}
use mathlib.Core.Path.{◌≡◌, refl, sym, ap, ◌∙◌}
use Prim.Native.Nat.{ℕ, ◌≤◌}
use native.Mathlib.Omega.{arith}
use lib.Dec.{ltb}
use borrow.Author.Tests.{eq-eqb, ltb-true, ltb-false}
use Rattle.octets.proofs.Tests.{test}
use Rattle.octets.proofs.Search.{lowest_most, lowest_passes, before_lowest}
use Rattle.table.specs.Syntax.{Tag, Table}
use Rattle.table.specs.Rules.{Reaches, here, through, First, outermost, inside}
use Rattle.table.specs.Decide.{same_tag, begins}
use Rattle.table.proofs.Decided.{same_tag_lem}
use Rattle.table.specs.Walk.{same_outermost, like, Hits, at, under}

pub tag_same : (g : Tag) → same_tag g g ≡ true
unfolding same_tag
tag_same g = rw (eq-eqb g.class g.class refl, eq-eqb g.number g.number refl)

-- two lists of tags that begin alike
pub record Both (gs hs : List Tag) : Type 0 where
  pub tag : Tag
  pub left : List Tag
  pub right : List Tag
  pub first : gs ≡ tag ∷ left
  pub second : hs ≡ tag ∷ right

pub outermost_same : (gs hs : List Tag) → same_outermost gs hs ≡ true → Both gs hs
unfolding same_outermost begins
outermost_same [] hs e = absurd (true≢false (sym e))
outermost_same (g ∷ gs) [] e = absurd (true≢false (sym e))
outermost_same (g ∷ gs) (h ∷ hs) e =
    record { tag = g; left = gs; right = hs; first = refl; second = ap (λ x. x ∷ hs) (sym (same_tag_lem g h e)) }

pub same_outermost_lem : (g : Tag) (gs hs xs ys : List Tag) → xs ≡ g ∷ gs → ys ≡ g ∷ hs → same_outermost xs ys ≡ true
unfolding same_outermost begins
same_outermost_lem g gs hs xs ys p q = rw (p, q) (tag_same g)

module _ (T : Table) where
  pub like_low : (t : ℕ) → like T t ≤ t
  unfolding like
  like_low t = lowest_most (λ u. same_outermost (T u).tags (T t).tags) t

  -- the lowest of them has the same outermost tag; a record without tags stands for itself
  pub like_tagged : (t : ℕ) (g : Tag) (gs : List Tag) → (T t).tags ≡ g ∷ gs → (hs : List Tag) × ((T (like T t)).tags ≡ g ∷ hs)
  unfolding like
  like_tagged t g gs e =
      test (ltb (like T t) t)
      (λ y. let b = outermost_same _ _ (lowest_passes (λ u. same_outermost (T u).tags (T t).tags) t (ltb-true _ _ y)) in
      (b.left, b.first ∙ ap (λ x. x ∷ b.left) (head (sym b.second ∙ e))))
      (λ n. let q : like T t ≡ t = omega (arith, ltb-false (like T t) t n, like_low t) in (gs, ap (λ u. (T u).tags) q ∙ e))
    where
      head : {x y : Tag} {xs ys : List Tag} → x ∷ xs ≡ y ∷ ys → x ≡ y
      head p = cc

  pub like_untagged : (t : ℕ) → (T t).tags ≡ [] → like T t ≡ t
  unfolding like
  like_untagged t e =
      test (ltb (like T t) t)
      (λ y. let b = outermost_same _ _ (lowest_passes (λ u. same_outermost (T u).tags (T t).tags) t (ltb-true _ _ y)) in
      absurd (clash (sym e ∙ b.second)))
      (λ n. omega (arith, ltb-false (like T t) t n, like_low t))
    where
      clash : {g : Tag} {gs : List Tag} → [] ≡ g ∷ gs → ⊥
      clash p = let z : ◌≡◌ {A = ℕ} 0 1 = cc in omega arith

  like_least : (t u : ℕ) (g : Tag) (gs hs : List Tag) → (T t).tags ≡ g ∷ gs → (T u).tags ≡ g ∷ hs → like T u ≤ like T t
  unfolding like
  like_least t u g gs hs e d =
      test (ltb (like T t) (like T u))
      (λ y. let (xs, p) = like_tagged t g gs e in
      absurd (true≢false (sym (same_outermost_lem g xs hs _ _ p d) ∙ before_lowest (λ w. same_outermost (T w).tags (T u).tags) u (like T t) (ltb-true _ _ y))))
      (λ n. ltb-false _ _ n)

  pub like_same : (t u : ℕ) (g : Tag) (gs hs : List Tag) → (T t).tags ≡ g ∷ gs → (T u).tags ≡ g ∷ hs → like T t ≡ like T u
  like_same t u g gs hs e d = omega (arith, like_least t u g gs hs e d, like_least u t g hs gs d e)

  -- a record without tags is hit only where it is reached
  pub like_alone : (t u : ℕ) → (T u).tags ≡ [] → u ≡ like T t → t ≡ u
  like_alone t u e q = by (T t).tags refl
    where
      clash : {g : Tag} {gs : List Tag} → [] ≡ g ∷ gs → ⊥
      clash p = let z : ◌≡◌ {A = ℕ} 0 1 = cc in omega arith

      by : (gs : List Tag) → (T t).tags ≡ gs → t ≡ u
      by [] d = sym (like_untagged t d) ∙ sym q
      by (g ∷ gs) d = let (hs, p) = like_tagged t g gs d in absurd (clash (sym e ∙ ap (λ w. (T w).tags) q ∙ p))

  pub hits_reaches : {u : ℕ} → (T u).tags ≡ [] → {k : ℕ} → Hits T u k → Reaches T u k
  hits_reaches {u} e (at {k = k} q) = rw (like_alone k u e q) here
  hits_reaches e (under a i h) = through a i (hits_reaches e h)

  pub reaches_hits : {u : ℕ} → (T u).tags ≡ [] → {k : ℕ} → Reaches T u k → Hits T u k
  reaches_hits {u} e here = at (sym (like_untagged u e))
  reaches_hits e (through a i r) = under a i (reaches_hits e r)

  -- where a tagged record's stand_in is hit, its outermost tag is a first tag
  like_back : (u k : ℕ) (g : Tag) (gs : List Tag) → (T u).tags ≡ g ∷ gs → like T u ≡ like T k → (hs : List Tag) × ((T k).tags ≡ g ∷ hs)
  like_back u k g gs e q = by (T k).tags refl
    where
      clash : {g : Tag} {gs : List Tag} → [] ≡ g ∷ gs → ⊥
      clash p = let z : ◌≡◌ {A = ℕ} 0 1 = cc in omega arith

      head : {x y : Tag} {xs ys : List Tag} → x ∷ xs ≡ y ∷ ys → x ≡ y
      head p = cc

      by : (hs : List Tag) → (T k).tags ≡ hs → (hs : List Tag) × ((T k).tags ≡ g ∷ hs)
      by [] d =
          let (xs, p) = like_tagged u g gs e in
          absurd (clash (sym d ∙ ap (λ w. (T w).tags) (sym (like_untagged k d) ∙ sym q) ∙ p))
      by (h ∷ hs) d =
          let (xs, p) = like_tagged u g gs e in
          let (ys, r) = like_tagged k h hs d in
          (hs, d ∙ ap (λ x. x ∷ hs) (head (sym r ∙ ap (λ w. (T w).tags) (sym q) ∙ p)))

  pub hits_first : (u : ℕ) (g : Tag) (gs : List Tag) → (T u).tags ≡ g ∷ gs → {k : ℕ} → Hits T (like T u) k → First T g k
  hits_first u g gs e (at {k = k} q) = let (hs, p) = like_back u k g gs e q in outermost hs p
  hits_first u g gs e (under a i h) = inside a i (hits_first u g gs e h)

  pub first_hits : (u : ℕ) (g : Tag) (gs : List Tag) → (T u).tags ≡ g ∷ gs → {k : ℕ} → First T g k → Hits T (like T u) k
  first_hits u g gs e (outermost {t = k} hs p) = at (like_same u k g gs hs e p)
  first_hits u g gs e (inside a i f) = under a i (first_hits u g gs e f)

  -- the record whose outermost tag a first tag is
  pub first_record : {g : Tag} {k : ℕ} → First T g k → (u : ℕ) × (gs : List Tag) × ((T u).tags ≡ g ∷ gs)
  first_record (outermost {t = k} hs p) = (k, hs, p)
  first_record (inside a i f) = first_record f

  pub reaches_first : {g : Tag} {u : ℕ} → First T g u → {k : ℕ} → Reaches T u k → First T g k
  reaches_first f here = f
  reaches_first f (through a i r) = inside a i (reaches_first f r)

  -- the record that a node that is hit stands for
  pub hits_record : {q k : ℕ} → Hits T q k → (u : ℕ) × (q ≡ like T u) × Reaches T u k
  hits_record (at {k = k} e) = (k, e, here)
  hits_record (under a i h) = let (u, e, r) = hits_record h in (u, e, through a i r)
