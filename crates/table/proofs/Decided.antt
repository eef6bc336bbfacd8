-- Each test of a rule agrees with the rule.
-- Assumes nothing.
use mathlib.Core.Bool.{Bool, true, false, not, ◌||◌, false≢true}
use mathlib.Core.List.Memᴰ.{head as in_head}
use mathlib.Core.List.Memᴰ.{tail as in_Tail}
use mathlib.Core.List.{List, [], ◌∷◌, ◌++◌, append_assoc, Memᴰ as In}
use mathlib.Core.List.Memᴰ.{append_right as in_right}
use mathlib.Core.List.Memᴰ.{not-nil as in_none}
use mathlib.Core.Logic.{⊎_elim}
use mathlib.Core.Path.{◌≡◌, refl, sym, ap, ◌∙◌}
use Prim.Native.Nat.{ℕ, ◌≤◌, ◌<◌}
use native.Mathlib.Omega.{arith}
use lib.Dec.{ltb, leb, eqb}
use lib.ListN.{get_or}
use borrow.Author.Tests.{ltb-true, ltb-false, leb-true, le-leb, eqb-true, eqb-false, eq-eqb, ne_eqb, not-true, not-false}
use Rattle.octets.proofs.Tests.{test}
use Rattle.octets.specs.Lists.{any}
use Rattle.octets.proofs.Lists.{both}
use Rattle.octets.proofs.Members.{or_cases, or_left, or_right, not_both, any_some, some_any, all_each, each_all, in_below}
use Rattle.table.specs.Syntax.{Tag, Member, Body, Plain, Sequence, Set, SequenceOf, SetOf, Choice, Record, Table, absent, is_choice, universal}
use Rattle.table.specs.Rules.{Dangling, Mistagged, missing, not_last, not_its_number, on_choice, body_below, tags_below, below, Reaches, here, through}
use Rattle.table.specs.Rules.{Circular, First, outermost, inside, siblings, runs_on, Sharing, members, Finite, all_mandatory, one_alternative, Infinite}
use Rattle.table.specs.Decide.{rounds, found, dangling, wrong_tags, mistagged, reach_step, circular, same_tag, begins}
use Rattle.table.specs.Decide.{first_step, first_of_both, share, sharing, finite_body, finite_step, infinite}
use Rattle.table.proofs.Rounds.{rounds_sound, rounds_closed}
use Rattle.table.proofs.Runs.{some_pair, paired}

-- 6

-- if the marked records have a finite value, so has one that is found
pub body_finite : (T : Table) (m : ℕ → Bool) → ((u : ℕ) → m u ≡ true → Finite T u) → (t : ℕ) (b : Body) → (T t).body ≡ b → finite_body m b ≡ true → Finite T t
unfolding finite_body is_choice members
body_finite T m h t (Plain k) q e = all_mandatory {t = t} (rw q) (λ x i o. absurd (in_none (rw q at i)))
body_finite T m h t (Sequence ms) q e =
    all_mandatory {t = t} (rw q) (λ x i o. h x.type (rw o at (all_each (λ (y : Member). y.optional || m y.type) e (rw q at i))))
body_finite T m h t (Set ms) q e =
    all_mandatory {t = t} (rw q) (λ x i o. h x.type (rw o at (all_each (λ (y : Member). y.optional || m y.type) e (rw q at i))))
body_finite T m h t (SequenceOf u) q e = all_mandatory {t = t} (rw q) (λ x i o. absurd (in_none (rw q at i)))
body_finite T m h t (SetOf u) q e = all_mandatory {t = t} (rw q) (λ x i o. absurd (in_none (rw q at i)))
body_finite T m h t (Choice ts) q e = let s = any_some m ts e in one_alternative ts s.element q s.among (h s.element s.has)

member_found : (m : ℕ → Bool) (x : Member) → (x.optional ≡ false → m x.type ≡ true) → (x.optional || m x.type) ≡ true
member_found m x h = test x.optional (λ e. rw e) λ e. rw e (h e)

mandatory_found : (m : ℕ → Bool) (b : Body) → is_choice b ≡ false → ((x : Member) → In x (members b) → x.optional ≡ false → m x.type ≡ true)
    → finite_body m b ≡ true
unfolding finite_body is_choice members
mandatory_found m (Plain k) c h = refl
mandatory_found m (Sequence ms) c h = each_all _ ms (λ x i. member_found m x (h x i))
mandatory_found m (Set ms) c h = each_all _ ms (λ x i. member_found m x (h x i))
mandatory_found m (SequenceOf t) c h = refl
mandatory_found m (SetOf t) c h = refl
mandatory_found m (Choice ts) c h = absurd (false≢true (sym c))

tag_same : (g : Tag) → same_tag g g ≡ true
unfolding same_tag
tag_same g = rw (eq-eqb g.class g.class refl, eq-eqb g.number g.number refl)

pub same_tag_lem : (g h : Tag) → same_tag g h ≡ true → g ≡ h
unfolding same_tag
same_tag_lem g h e =
    let q = both (eqb g.class h.class) _ e in
    let c = eqb-true g.class h.class q.0 in
    let d = eqb-true g.number h.number q.1 in
    ap (λ x. record { class = x; number = g.number }) c ∙ ap (λ x. record { class = h.class; number = x }) d

first_begins_lem : (T : Table) (g : Tag) (t : ℕ) (gs : List Tag) → (T t).tags ≡ gs → begins g gs ≡ true → First T g t
unfolding begins
first_begins_lem T g t [] q e = absurd (false≢true e)
first_begins_lem T g t (h ∷ gs) q e = outermost gs (q ∙ ap {B = List Tag} (λ x. x ∷ gs) (sym (same_tag_lem g h e)))

-- a first tag of both
pub record Shared (T : Table) (a c : ℕ) : Type 0 where
  pub tag : Tag
  pub first : First T tag a
  pub second : First T tag c

-- a record with this outermost tag
record Owner (T : Table) (n : ℕ) (g : Tag) : Type 0 where
  place : ℕ
  there : place < n
  rest : List Tag
  is : (T place).tags ≡ g ∷ rest

-- 2

pub dangling_sound : (T : Table) (n t : ℕ) → dangling T n t ≡ true → Dangling T n t
unfolding dangling
dangling_sound T n t e = let s = any_some _ _ e in record { type = s.element; named = s.among; beyond = leb-true n s.element s.has }

pub dangling_complete : (T : Table) (n t : ℕ) → Dangling T n t → dangling T n t ≡ true
unfolding dangling
dangling_complete T n t d = some_any (λ r. leb n r) d.named (le-leb n d.type d.beyond)

-- 3

wrong_more : (r : Record) (before : List Tag) (g : Tag) (gs : List Tag) → r.tags ≡ before ++ (g ∷ gs) → wrong_tags r.body (g ∷ gs) ≡ true → Mistagged r
unfolding wrong_tags
wrong_more r before g [] q e =
    let c = both (eqb g.class 0) _ e in
    let z = eqb-true g.class 0 c.0 in
    ⊎_elim (λ h. on_choice g (rw q (in_right before (in_head refl))) z h)
    (λ (h : not (eqb g.number (universal r.body)) ≡ true). not_its_number before g q z (eqb-false _ _ (not-true _ h)))
    (or_cases (is_choice r.body) _ c.1)
wrong_more r before g (h ∷ gs) q e =
    ⊎_elim (λ (z : eqb g.class 0 ≡ true). not_last before gs g h q (eqb-true _ _ z))
    (wrong_more r (before ++ (g ∷ [])) h gs (q ∙ sym (append_assoc before (g ∷ []) (h ∷ gs))))
    (or_cases (eqb g.class 0) _ e)

wrong_tags_lem : (r : Record) (gs : List Tag) → r.tags ≡ gs → wrong_tags r.body gs ≡ true → Mistagged r
unfolding wrong_tags
wrong_tags_lem r [] q e = missing q (not-true _ e)
wrong_tags_lem r (g ∷ gs) q e = wrong_more r [] g gs q e

pub mistagged_sound : (T : Table) (t : ℕ) → mistagged T t ≡ true → Mistagged (T t)
mistagged_sound T t e = wrong_tags_lem (T t) (T t).tags refl e

wrong_after : (b : Body) (before : List Tag) (g : Tag) (gs : List Tag) → wrong_tags b (g ∷ gs) ≡ true → wrong_tags b (before ++ (g ∷ gs)) ≡ true
unfolding wrong_tags
wrong_after b [] g gs e = e
wrong_after b (x ∷ []) g gs e = or_right (eqb x.class 0) _ e
wrong_after b (x ∷ y ∷ before) g gs e = or_right (eqb x.class 0) _ (wrong_after b (y ∷ before) g gs e)

choice_tag : (b : Body) (g : Tag) (gs : List Tag) → is_choice b ≡ true → g.class ≡ 0 → wrong_tags b (g ∷ gs) ≡ true
unfolding wrong_tags
choice_tag b g [] c z = rw (eq-eqb g.class 0 z, c)
choice_tag b g (h ∷ gs) c z = or_left (eqb g.class 0) _ (eq-eqb g.class 0 z)

on_choices : (b : Body) {g : Tag} {gs : List Tag} → is_choice b ≡ true → g.class ≡ 0 → In g gs → wrong_tags b gs ≡ true
on_choices b c z (in_head {x = h} {xs = gs} q) = choice_tag b h gs c (rw q at z)
on_choices b c z (in_Tail {x = h} {xs = []} i) = absurd (in_none i)
on_choices b c z (in_Tail {x = h} {xs = k ∷ gs} i) = wrong_after b (h ∷ []) k gs (on_choices b c z i)

pub mistagged_complete : (T : Table) (t : ℕ) → Mistagged (T t) → mistagged T t ≡ true
unfolding wrong_tags
mistagged_complete T t (missing q c) = rw (q, c)
mistagged_complete T t (not_last before after g h q z) =
    rw q (wrong_after (T t).body before g (h ∷ after) (or_left (eqb g.class 0) _ (eq-eqb g.class 0 z)))
mistagged_complete T t (not_its_number before g q z h) =
    rw q (wrong_after (T t).body before g [] (rw (eq-eqb g.class 0 z, ne_eqb g.number (universal (T t).body) h) (or_right (is_choice (T t).body) true refl)))
mistagged_complete T t (on_choice g i z c) = on_choices (T t).body c z i

module _ (T : Table) (n : ℕ) where
  pub finite_sound : (t : ℕ) → found (finite_step T) n t ≡ true → Finite T t
  unfolding finite_step
  finite_sound = rounds_sound (finite_step T) n (Finite T) (λ m h t e. body_finite T m h t (T t).body refl e)

  pub infinite_false : (t : ℕ) → infinite T n t ≡ false → Finite T t
  unfolding infinite
  infinite_false t e = finite_sound t (not-false _ e)

  -- 4

  pub reach_sound : (u t : ℕ) → found (reach_step T u) n t ≡ true → Reaches T u t
  unfolding reach_step
  reach_sound u =
      rounds_sound (reach_step T u) n (Reaches T u) (λ m h t e. ⊎_elim (λ (q : eqb t u ≡ true). rw (eqb-true t u q) here)
      (λ (q : any m (below T t) ≡ true). let s = any_some m (below T t) q in through s.element s.among (h s.element s.has))
      (or_cases (eqb t u) _ e))

  pub circular_sound : (t : ℕ) → circular T n t ≡ true → Circular T t
  unfolding circular
  circular_sound t e =
      let s = any_some (found (reach_step T t) n) (below T t) e in
      record { alternative = s.element; of = s.among; back = reach_sound t s.element s.has }

  -- 5

  pub first_sound : (g : Tag) (t : ℕ) → found (first_step T g) n t ≡ true → First T g t
  unfolding first_step
  first_sound g =
      rounds_sound (first_step T g) n (First T g) (λ m h t e. ⊎_elim (λ (q : begins g (T t).tags ≡ true). first_begins_lem T g t (T t).tags refl q)
      (λ (q : any m (below T t) ≡ true). let s = any_some m (below T t) q in inside s.element s.among (h s.element s.has))
      (or_cases (begins g (T t).tags) _ e))

  both_first : (a c : ℕ) (gs : List Tag) → first_of_both T n a c gs ≡ true → Shared T a c
  unfolding first_of_both
  both_first a c [] e = absurd (false≢true e)
  both_first a c (g ∷ gs) e =
      let q = both (found (first_step T g) n a) _ e in
      record { tag = g; first = first_sound g a q.0; second = first_sound g c q.1 }

  pub share_sound : (a c : ℕ) → share T n a c ≡ true → Shared T a c
  unfolding share
  share_sound a c e = let s = any_some _ _ e in both_first a c (T s.element).tags s.has

  pub sharing_sound : (t : ℕ) → sharing T n t ≡ true → Sharing T t
  unfolding sharing
  sharing_sound t e =
      let p = some_pair (runs_on (T t).body) (share T n) (siblings (T t).body) e in
      let s = share_sound _ _ p.related in
      record { i = p.i; j = p.j; apart = p.apart; within = p.within; one_run = p.one_run; tag = s.tag; first = s.first; second = s.second }

  module _ (beyond : (t : ℕ) → n ≤ t → T t ≡ absent) where
    -- what holds of the records that are there, and of none beyond
    there_or_absent : {X : Type 0} (t : ℕ) → (t < n → X) → (T t ≡ absent → X) → X
    there_or_absent t f g = test (ltb t n) (λ e. f (ltb-true t n e)) λ e. g (beyond t (ltb-false t n e))

    module _ (m : ℕ → Bool) (closed : (t : ℕ) → t < n → finite_body m (T t).body ≡ true → m t ≡ true) where
      mandatory_there : (t : ℕ) → is_choice (T t).body ≡ false
          → ((x : Member) → In x (members (T t).body) → x.optional ≡ false → m x.type ≡ true) → m t ≡ true
      unfolding is_choice
      mandatory_there t c h =
          there_or_absent t (λ l. closed t l (mandatory_found m (T t).body c h)) (λ a. absurd (false≢true (rw a at (sym c))))

      alternative_there : (t : ℕ) (ts : List ℕ) (a : ℕ) → (T t).body ≡ Choice ts → In a ts → m a ≡ true → m t ≡ true
      unfolding finite_body
      alternative_there t ts a q i e =
          there_or_absent t (λ l. closed t l (rw q (some_any m i e))) (λ z. let s : ts ≡ [] = cc in absurd (in_none (rw s at i)))

      -- marks to which no record that is there has to be added are on all that have a finite value
      pub closed_finite : {t : ℕ} → Finite T t → m t ≡ true
      closed_finite (all_mandatory {t} c h) = mandatory_there t c (λ x i o. closed_finite (h x i o))
      closed_finite (one_alternative {t} ts a q i h) = alternative_there t ts a q i (closed_finite h)

    pub finite_complete : {t : ℕ} → Finite T t → found (finite_step T) n t ≡ true
    unfolding finite_step found
    finite_complete h = closed_finite (λ u. get_or (rounds (finite_step T) n n) u false) (rounds_closed (finite_step T) n) h

    pub infinite_true : (t : ℕ) → infinite T n t ≡ true → Infinite T t
    unfolding infinite
    infinite_true t e h = not_both (found (finite_step T) n t) (finite_complete h) (not-true _ e)

    -- 4

    reach_there : (u t a : ℕ) → In a (below T t) → found (reach_step T u) n a ≡ true → found (reach_step T u) n t ≡ true
    unfolding reach_step found tags_below body_below
    reach_there u t a i e =
        there_or_absent t
        (λ l. rounds_closed (reach_step T u) n t l (or_right (eqb t u) _ (some_any (λ v. get_or (rounds (reach_step T u) n n) v false) i e)))
        (λ z. absurd (in_none (rw z at i)))

    reach_itself : (u : ℕ) → u < n → found (reach_step T u) n u ≡ true
    unfolding reach_step
    reach_itself u l = rounds_closed (reach_step T u) n u l (or_left (eqb u u) _ (eq-eqb u u refl))

    pub reach_complete : {u t : ℕ} → u < n → Reaches T u t → found (reach_step T u) n t ≡ true
    reach_complete {u} l here = reach_itself u l
    reach_complete {u} l (through {t} a i r) = reach_there u t a i (reach_complete l r)

    pub circular_complete : (t : ℕ) → t < n → Circular T t → circular T n t ≡ true
    unfolding circular
    circular_complete t l c = some_any _ c.of (reach_complete l c.back)

    -- 5

    outermost_there : (g : Tag) (t : ℕ) (gs : List Tag) → (T t).tags ≡ g ∷ gs → t < n
    outermost_there g t gs e = there_or_absent t (λ l. l) (λ z. absurd (let q : ◌≡◌ {A = ℕ} 0 1 = cc in omega arith))

    first_outermost : (g : Tag) (t : ℕ) (gs : List Tag) → (T t).tags ≡ g ∷ gs → found (first_step T g) n t ≡ true
    unfolding first_step begins
    first_outermost g t gs e =
        rounds_closed (first_step T g) n t (outermost_there g t gs e) (or_left (begins g (T t).tags) _ (rw e (tag_same g)))

    first_there : (g : Tag) (t a : ℕ) → In a (below T t) → found (first_step T g) n a ≡ true → found (first_step T g) n t ≡ true
    unfolding first_step found tags_below body_below
    first_there g t a i e =
        there_or_absent t
        (λ l. rounds_closed (first_step T g) n t l (or_right (begins g (T t).tags) _ (some_any (λ v. get_or (rounds (first_step T g) n n) v false) i e)))
        (λ z. absurd (in_none (rw z at i)))

    pub first_complete : {g : Tag} {t : ℕ} → First T g t → found (first_step T g) n t ≡ true
    first_complete {g} (outermost {t} gs e) = first_outermost g t gs e
    first_complete {g} (inside {t} a i f) = first_there g t a i (first_complete f)

    owner : {g : Tag} {t : ℕ} → First T g t → Owner T n g
    owner {g} (outermost {t} gs e) = record { place = t; there = outermost_there g t gs e; rest = gs; is = e }
    owner (inside a i f) = owner f

    pub share_complete : {g : Tag} {a c : ℕ} → First T g a → First T g c → share T n a c ≡ true
    unfolding share first_of_both
    share_complete {g} {a} {c} f h =
        let o = owner f in
        some_any (λ u. first_of_both T n a c (T u).tags) (in_below n o.place o.there) (rw (o.is, first_complete f, first_complete h))

    pub sharing_complete : (t : ℕ) → Sharing T t → sharing T n t ≡ true
    unfolding sharing
    sharing_complete t s = paired _ (share T n) _ s.i s.j s.apart s.within s.one_run (share_complete s.first s.second)

-- a test that agrees with a rule, and code that finds which of the two holds
decides : {P : Type 0} (f r : Bool) → (f ≡ true → P) → (P → f ≡ true) → (r ≡ true → P) → (r ≡ false → P → ⊥) → f ≡ r
decides true true a b c d = refl
decides true false a b c d = absurd (d refl (a refl))
decides false true a b c d = b (c refl)
decides false false a b c d = refl

module _ (T : Table) (n : ℕ) (beyond : (t : ℕ) → n ≤ t → T t ≡ absent) (t : ℕ) (r : Bool) where
  pub circular_is : t < n → (r ≡ true → Circular T t) × (r ≡ false → Circular T t → ⊥) → circular T n t ≡ r
  circular_is h x = decides (circular T n t) r (circular_sound T n t) (circular_complete T n beyond t h) x.0 x.1

  pub sharing_is : (r ≡ true → Sharing T t) × (r ≡ false → Sharing T t → ⊥) → sharing T n t ≡ r
  sharing_is x = decides (sharing T n t) r (sharing_sound T n t) (sharing_complete T n beyond t) x.0 x.1
