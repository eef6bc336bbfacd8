-- CHOICEs without tags that do not reach themselves end; every record then has a first tag; members that hit one node share one.
-- Assumes nothing.
use mathlib.Core.Bool.{true}
use mathlib.Core.List.Memᴰ.{head as first_of}
use mathlib.Core.List.Memᴰ.{not-nil as not_in_nil}
use mathlib.Core.List.{List, [], ◌∷◌, Memᴰ as In}
use mathlib.Core.Path.{◌≡◌, refl, ap, ◌∙◌}
use Prim.Native.Nat.{ℕ, zero, suc, ◌≤◌, ◌<◌}
use native.Mathlib.Nat.{not-suc-le-zero, le_of_suc-le-suc}
use native.Mathlib.Omega.{arith}
use lib.Dec.{eqb, leb}
use lib.ListN.{length, get_or, set, length-set, replicate, length-replicate}
use lib.Seq.{get_or-set_other}
use borrow.Author.Tests.{eqb-true, eqb-false, leb-true, leb-false}
use Rattle.octets.proofs.Tests.{test}
use Rattle.octets.proofs.Lists.{both}
use Rattle.table.specs.Syntax.{Tag, Table, Body, Plain, Sequence, Set, SequenceOf, SetOf, Choice, Record, is_choice, references}
use Rattle.table.specs.Octets.{record_shaped, body_shaped}
use Rattle.table.specs.Rules.{below, tags_below, body_below, Reaches, here, through, Circular, First, outermost, inside, Mistagged, missing}
use Rattle.table.specs.Passes.{Nested}
use Rattle.table.specs.Walk.{like, free, Hits, Named, Straight}
use Rattle.table.proofs.Nodes.{hits_record, hits_first, hits_reaches, reaches_first, like_untagged}
use Rattle.table.proofs.Walk.{one_fewer}
use Rattle.table.proofs.Reading.{limits}

-- j reaches t by one step or more
pub record Leads (T : Table) (j t : ℕ) : Type 0 where
  pub alternative : ℕ
  pub of : In alternative (below T j)
  pub to : Reaches T t alternative

one_step : {T : Table} {u t x : ℕ} → In u (below T t) → Reaches T t x → Reaches T u x
one_step i here = through _ i here
one_step i (through a k r) = through a k (one_step i r)

none_free : (v : List ℕ) (k : ℕ) → free v ≡ 0 → k < length v → get_or v k 0 ≡ 0 → ⊥
unfolding free
none_free [] k f h e = not-suc-le-zero h
none_free (zero ∷ v) zero f h e = omega arith
none_free (suc x ∷ v) zero f h e = omega arith
none_free (x ∷ v) (suc k) f h e = none_free v k (omega arith) (le_of_suc-le-suc h) e

pub zeros : (k i : ℕ) → ◌≡◌ {A = ℕ} (get_or (replicate k 0) i 0) 0
zeros zero i = refl
zeros (suc k) zero = refl
zeros (suc k) (suc i) = zeros k i

free_zeros : (k : ℕ) → free (replicate k 0) ≡ k
unfolding free
free_zeros zero = refl
free_zeros (suc k) = omega (arith, free_zeros k)

module _ (T : Table) (n : ℕ) (there : (t a : ℕ) → t < n → In a (below T t) → a < n) (straight : (t : ℕ) → t < n → Circular T t → ⊥) where
  -- the marked records lead to t, and f are left
  nested : (f : ℕ) (v : List ℕ) (t : ℕ) → free v ≤ f → length v ≡ n → ((j : ℕ) → (get_or v j 0 ≡ 0 → ⊥) → Leads T j t) → t < n → Nested T f t
  unfolding Nested
  nested zero v t fr s l h =
      absurd (straight t h (let x = l t (none_free v t (omega arith) (omega arith)) in record { alternative = x.alternative; of = x.of; back = x.to }))
  nested (suc f) v t fr s l h = λ a i.
      test (eqb (get_or v t 0) 0)
      (λ e.
      let m = one_fewer v t 1 (omega arith) (eqb-true (get_or v t 0) 0 e) (λ z. omega arith) in
      nested f (set v t 1) a (omega arith) (length-set v t 1 ∙ s) (leads a i) (there t a h i))
      (λ e. absurd (straight t h (let x = l t (eqb-false (get_or v t 0) 0 e) in record { alternative = x.alternative; of = x.of; back = x.to })))
    where
      leads : (a : ℕ) → In a (below T t) → (j : ℕ) → (get_or (set v t 1) j 0 ≡ 0 → ⊥) → Leads T j a
      leads a i j u =
          test (eqb j t)
          (λ e. rw (eqb-true j t e) (record { alternative = a; of = i; to = here }))
          (λ e. let x = l j (λ z. u (get_or-set_other v t j 1 0 (eqb-false j t e) ∙ z)) in
          record { alternative = x.alternative; of = x.of; to = one_step i x.to })

  pub ends : (t : ℕ) → t < n → Nested T n t
  ends t h = nested n (replicate n 0) t (omega (arith, free_zeros n)) (length-replicate n 0) (λ j u. absurd (u (zeros n j))) h

-- an untagged record that keeps the rules is a CHOICE with an alternative
some_below : (r : Record) → r.tags ≡ [] → record_shaped r ≡ true → (Mistagged r → ⊥) → tags_below r.tags r.body ≡ [] → ⊥
unfolding tags_below body_below body_shaped is_choice
some_below r e s t b = by r.body refl
  where
    nil : {A : Type 0} (l : List A) → l ≡ [] → length l ≡ 0
    nil l p = ap length p

    by : (y : Body) → r.body ≡ y → ⊥
    by (Plain k) p = t (missing e (rw p refl))
    by (Sequence ms) p = t (missing e (rw p refl))
    by (Set ms) p = t (missing e (rw p refl))
    by (SequenceOf u) p = t (missing e (rw p refl))
    by (SetOf u) p = t (missing e (rw p refl))
    by (Choice ts) p =
        let q = (both (leb 1 (length ts)) (leb (length ts) 16) (rw p at (limits r s).shaped)).0 in
        let l : ts ≡ [] = rw (e, p) at b in
        omega (arith, leb-true 1 (length ts) q, nil ts l)

module _ (T : Table) (n : ℕ) (x : Straight T n) (there : (t a : ℕ) → t < n → In a (below T t) → a < n) where
  first_by : (t : ℕ) → t < n → ((a : ℕ) → In a (below T t) → (g : Tag) × First T g a) → (g : Tag) × First T g t
  first_by t h rec = by (T t).tags refl (below T t) refl
    where
      by : (gs : List Tag) → (T t).tags ≡ gs → (l : List ℕ) → below T t ≡ l → (g : Tag) × First T g t
      by (g ∷ gs) e l b = (g, outermost gs e)
      by [] e [] b = absurd (some_below (T t) e (x.named.shaped t h) (x.named.tagged t h) b)
      by [] e (a ∷ l) b =
          let i : In a (below T t) = rw b (first_of refl) in
          let (g, f) = rec a i in (g, inside a i f)

  first_within : (d t : ℕ) → t < n → Nested T d t → (g : Tag) × First T g t
  unfolding Nested
  first_within zero t h k = first_by t h (λ a i. absurd (not_in_nil (rw k at i)))
  first_within (suc d) t h k = first_by t h (λ a i. first_within d a (there t a h i) (k a i))

  pub reached_there : {u t : ℕ} → t < n → Reaches T u t → u < n
  reached_there h here = h
  reached_there h (through {t = t} a i r) = reached_there (there t a h i) r

  -- two records that hit one node share a first tag
  pub share_tag : (q i j : ℕ) → i < n → j < n → Hits T q i → Hits T q j → (g : Tag) × First T g i × First T g j
  share_tag q i j hi hj a b = by (hits_record T a)
    where
      by : ((u : ℕ) × (q ≡ like T u) × Reaches T u i) → (g : Tag) × First T g i × First T g j
      by (u, e, r) = tags (T u).tags refl
        where
          tags : (gs : List Tag) → (T u).tags ≡ gs → (g : Tag) × First T g i × First T g j
          tags (g ∷ gs) d = (g, hits_first T u g gs d (rw e at a), hits_first T u g gs d (rw e at b))
          tags [] d =
              let same = e ∙ like_untagged T u d in
              let (g, f) = first_within n u (reached_there hi r) (x.ends u (reached_there hi r)) in
              (g, reaches_first T f r, reaches_first T f (hits_reaches T d (rw same at b)))

-- a record's alternatives are records that it names
below_named : (gs : List Tag) (b : Body) (a : ℕ) → In a (tags_below gs b) → In a (references b)
unfolding tags_below body_below references
below_named [] (Plain k) a i = i
below_named [] (Sequence ms) a i = absurd (not_in_nil i)
below_named [] (Set ms) a i = absurd (not_in_nil i)
below_named [] (SequenceOf t) a i = absurd (not_in_nil i)
below_named [] (SetOf t) a i = absurd (not_in_nil i)
below_named [] (Choice ts) a i = i
below_named (g ∷ gs) b a i = absurd (not_in_nil i)

module _ (T : Table) (n : ℕ) (x : Named T n) where
  pub named_there : (t a : ℕ) → t < n → In a (references (T t).body) → a < n
  named_there t a h i = test (leb n a) (λ e. absurd (x.there t h (record { type = a; named = i; beyond = leb-true n a e }))) λ e. leb-false n a e

  pub below_there : (t a : ℕ) → t < n → In a (below T t) → a < n
  below_there t a h i = named_there t a h (below_named (T t).tags (T t).body a i)
