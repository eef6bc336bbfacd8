-- What a table that passes gives to reading: first tags tell apart what is awaited together, and no item begins as an end does.
-- Assumes nothing.
use borrow.Author.Tests.{ltb-true, ltb-false}
use mathlib.Core.Bool.{Bool, true, false, ◌&&◌, ◌||◌, false≢true, true≢false}
use mathlib.Core.List.Memᴰ
use mathlib.Core.List.{List, [], ◌∷◌, ◌++◌, map, Memᴰ as In}
use mathlib.Core.Option.{Option}
use mathlib.Core.Path.{◌≡◌, refl, sym, ap, subst, ◌∙◌}
use native.Mathlib.Omega.{arith}
use Prim.Native.Nat.{ℕ, zero, suc, ◌≤◌, ◌<◌}
use lib.Dec.{ltb}
use lib.ListN.{length, get_or}
use lib.Seq.{append_snoc}
use Rattle.octets.specs.Lists.{any, same}
use Rattle.octets.specs.Permutations.{Every, every_nil, every_cons}
use Rattle.octets.proofs.Tests.{test, and_right, or_by}
use Rattle.octets.proofs.Search.{passes_later, passes_longer}
use Rattle.octets.proofs.Lists.{same_refl, same_true}
use Rattle.x690.proofs.Identifiers.{identifier_complete, identifier_tag, identifier_begun, Begun}
use Rattle.x690.specs.Segments.{Kind, in_parts, in_either}
use Rattle.x690.proofs.Items.{Readable}
use Rattle.x690.proofs.Segments.{Heading, as_whole, as_parts, parts_identifier}
use Rattle.dates.specs.declared.TimeKind.TheVariants.{Utc, Generalized}
use Rattle.table.specs.Syntax.{Tag, Member, Simple, Boolean, Integer, BitString, OctetString, Null, Enumerated, Time, Body, Plain, Sequence, Set}
use Rattle.table.specs.Syntax.{SequenceOf, SetOf, Choice, Record, Table, absent, references, is_choice, universal, constructed}
use Rattle.table.specs.Rules.{Mistagged, missing, not_last, not_its_number, on_choice, body_below, tags_below, below, First, outermost, inside, siblings, runs_on, Sharing}
use Rattle.table.specs.Passes.{Nested, Passes}
use Rattle.coding.specs.Content.{segmented}
use Rattle.coding.specs.Awaited.{types, awaited}
use Rattle.coding.specs.Tags.{identifier_of, last, before, explicit_tags, own_tag, explicit}
use Rattle.coding.specs.Awaited.{begins_body, begins_item, begins_in, begins}

-- i begins one of the types
abbrev pub begins_any : Table → List ℕ → List ℕ → Bool
begins_any T i ts = any (λ t. begins T t i) ts

-- no two of the types begin alike
unfoldable pub Distinct : Table → List ℕ → Type 0
Distinct T [] = Unit {0}
Distinct T (t ∷ ts) = ((i : List ℕ) → begins T t i ≡ true → begins_any T i ts ≡ false) × Distinct T ts

-- no two members of a SEQUENCE that are awaited together begin alike
unfoldable pub Apart : Table → List Member → Type 0
Apart T [] = Unit {0}
Apart T (m ∷ ms) = ((i : List ℕ) → m.optional ≡ true → begins T m.type i ≡ true → begins_any T i (awaited ms) ≡ false) × Apart T ms

unfoldable pub GoodBody : Table → Body → Type 0
GoodBody T (Plain k) = Unit {0}
GoodBody T (Sequence ms) = Apart T ms
GoodBody T (Set ms) = Distinct T (types ms)
GoodBody T (SequenceOf t) = Unit {0}
GoodBody T (SetOf t) = Unit {0}
GoodBody T (Choice ts) = Distinct T ts

-- identifier octets of a tag that is not UNIVERSAL 0
pub record Proper (i : List ℕ) : Type 0 where
  pub tag : Tag
  pub bit : Bool
  pub is : i ≡ identifier_of bit tag
  pub real : tag.class ≡ 0 → tag.number ≡ 0 → ⊥

pub proper_readable : {i : List ℕ} → Proper i → Readable i
unfolding identifier_of
proper_readable p s = rw p.is (identifier_complete p.tag.class p.bit p.tag.number s)

pub proper_begun : {i : List ℕ} → Proper i → Begun i
unfolding identifier_of
proper_begun p = rw p.is (identifier_begun p.tag.class p.bit p.tag.number p.real)

-- with what the encodings of a kind begin
unfoldable pub Begins : Table → List (List ℕ) → List ℕ → Body → List ℕ → Type 0
Begins T [] o (Choice ts) i = begins_any T i ts ≡ true
Begins T [] o (Plain k) i = Heading o (segmented k) i
Begins T [] o (Sequence ms) i = i ≡ o
Begins T [] o (Set ms) i = i ≡ o
Begins T [] o (SequenceOf t) i = i ≡ o
Begins T [] o (SetOf t) i = i ≡ o
Begins T (e ∷ es) o b i = i ≡ e

-- all that completeness takes from the table's check, for one record
pub record GoodRecord (T : Table) (t : ℕ) : Type 0 where
  pub apart : GoodBody T (T t).body
  pub begin : (i : List ℕ) → Begins T (explicit (T t)) (own_tag (T t)) (T t).body i → begins T t i ≡ true
  pub inner : Every Proper (explicit (T t))
  pub item : is_choice (T t).body ≡ false → Proper (own_tag (T t))
  pub parts : constructed (T t).body ≡ false → Proper (in_parts (own_tag (T t)))
  pub first : (i : List ℕ) → begins T t i ≡ true → Proper i

abbrev pub Good : Table → Type 0
Good T = (t : ℕ) → GoodRecord T t

-- tests over lists

or_right : (a b : Bool) → b ≡ true → (a || b) ≡ true
or_right true b e = refl
or_right false b e = e

or_left : (a b : Bool) → a ≡ true → (a || b) ≡ true
or_left true b e = refl
or_left false b e = absurd (false≢true e)

never : (a : Bool) → (a ≡ true → ⊥) → a ≡ false
never true h = absurd (h refl)
never false h = refl

any_mono : (f g : ℕ → Bool) (ts : List ℕ) → ((u : ℕ) → In u ts → f u ≡ true → g u ≡ true) → any f ts ≡ true → any g ts ≡ true
unfolding any
any_mono f g [] h e = e
any_mono f g (t ∷ ts) h e =
    or_by (f t) (any f ts) e (λ x. or_left (g t) _ (h t (In.head refl) x)) (λ x. or_right (g t) _ (any_mono f g ts (λ u m. h u (In.tail m)) x))

-- the element that passes, and its place
record Found (f : ℕ → Bool) (ts : List ℕ) : Type 0 where
  element : ℕ
  among : In element ts
  passes : f element ≡ true
  place : ℕ
  within : place < length ts
  there : get_or ts place 0 ≡ element

any_found : (f : ℕ → Bool) (ts : List ℕ) → any f ts ≡ true → Found f ts
unfolding any
any_found f [] e = absurd (false≢true e)
any_found f (t ∷ ts) e =
    or_by (f t) (any f ts) e
    (λ x. record { element = t; among = In.head refl; passes = x; place = 0; within = omega arith; there = refl })
    (λ x. let y = any_found f ts x in let h = y.within in
    record { element = y.element; among = In.tail y.among; passes = y.passes; place = suc y.place; within = omega arith; there = y.there })

-- the constructed form of a tag's identifier octets
parts_of_lem : (g : Tag) → in_parts (identifier_of false g) ≡ identifier_of true g
unfolding identifier_of
parts_of_lem g = parts_identifier g.class g.number

-- why identifier octets begin a record

data Shown (f : ℕ → Bool) (i : List ℕ) (gs : List Tag) (b : Body) : Type 0 where
  by_tag : (g : Tag) (rest : List Tag) (bit : Bool) → gs ≡ g ∷ rest → i ≡ identifier_of bit g → Shown f i gs b
  by_alternative : (ts : List ℕ) → gs ≡ [] → b ≡ Choice ts → any f ts ≡ true → Shown f i gs b

shown : (f : ℕ → Bool) (i : List ℕ) (gs : List Tag) (b : Body) → (gs ≡ [] → is_choice b ≡ true)
    → begins_item f i (map (identifier_of true) (explicit_tags b gs)) (identifier_of (constructed b) (last b gs)) b ≡ true → Shown f i gs b
unfolding begins_item begins_body explicit_tags before last constructed is_choice
shown f i [] (Plain k) ok e = absurd (false≢true (ok refl))
shown f i (g ∷ []) (Plain k) ok e =
    or_by (same i (identifier_of false g)) _ e (λ h. by_tag g [] false refl (same_true i _ h))
    λ h. by_tag g [] true refl (same_true i _ (and_right (in_either (segmented k)) _ h) ∙ parts_of_lem g)
shown f i (g ∷ h ∷ gs) (Plain k) ok e = by_tag g (h ∷ gs) true refl (same_true i _ e)
shown f i [] (Sequence ms) ok e = absurd (false≢true (ok refl))
shown f i (g ∷ []) (Sequence ms) ok e = by_tag g [] true refl (same_true i _ e)
shown f i (g ∷ h ∷ gs) (Sequence ms) ok e = by_tag g (h ∷ gs) true refl (same_true i _ e)
shown f i [] (Set ms) ok e = absurd (false≢true (ok refl))
shown f i (g ∷ []) (Set ms) ok e = by_tag g [] true refl (same_true i _ e)
shown f i (g ∷ h ∷ gs) (Set ms) ok e = by_tag g (h ∷ gs) true refl (same_true i _ e)
shown f i [] (SequenceOf t) ok e = absurd (false≢true (ok refl))
shown f i (g ∷ []) (SequenceOf t) ok e = by_tag g [] true refl (same_true i _ e)
shown f i (g ∷ h ∷ gs) (SequenceOf t) ok e = by_tag g (h ∷ gs) true refl (same_true i _ e)
shown f i [] (SetOf t) ok e = absurd (false≢true (ok refl))
shown f i (g ∷ []) (SetOf t) ok e = by_tag g [] true refl (same_true i _ e)
shown f i (g ∷ h ∷ gs) (SetOf t) ok e = by_tag g (h ∷ gs) true refl (same_true i _ e)
shown f i [] (Choice ts) ok e = by_alternative ts refl refl e
shown f i (g ∷ gs) (Choice ts) ok e = by_tag g gs true refl (same_true i _ e)

item_mono : (f g : ℕ → Bool) (i : List ℕ) (es : List (List ℕ)) (o : List ℕ) (b : Body)
    → ((ts : List ℕ) → es ≡ [] → b ≡ Choice ts → (u : ℕ) → In u ts → f u ≡ true → g u ≡ true)
    → begins_item f i es o b ≡ true → begins_item g i es o b ≡ true
unfolding begins_item begins_body
item_mono f g i [] o (Plain k) h e = e
item_mono f g i [] o (Sequence ms) h e = e
item_mono f g i [] o (Set ms) h e = e
item_mono f g i [] o (SequenceOf t) h e = e
item_mono f g i [] o (SetOf t) h e = e
item_mono f g i [] o (Choice ts) h e = any_mono f g ts (h ts refl refl) e
item_mono f g i (x ∷ es) o b h e = e

heading_begins : {i o : List ℕ} {k : Option Kind} → Heading o k i → (same i o || (in_either k && same i (in_parts o))) ≡ true
heading_begins {o = o} (as_whole e) = rw e (or_left (same o o) _ (same_refl o))
heading_begins {i = i} {o = o} (as_parts h e) = or_right (same i o) _ (rw (h, e) (same_refl (in_parts o)))

item_begins : (T : Table) (f : ℕ → Bool) (i : List ℕ) (es : List (List ℕ)) (o : List ℕ) (b : Body)
    → ((ts : List ℕ) → es ≡ [] → b ≡ Choice ts → (u : ℕ) → In u ts → begins T u i ≡ true → f u ≡ true)
    → Begins T es o b i → begins_item f i es o b ≡ true
unfolding begins_item begins_body Begins
item_begins T f i [] o (Plain k) h e = heading_begins e
item_begins T f i [] o (Sequence ms) h e = rw e (same_refl o)
item_begins T f i [] o (Set ms) h e = rw e (same_refl o)
item_begins T f i [] o (SequenceOf t) h e = rw e (same_refl o)
item_begins T f i [] o (SetOf t) h e = rw e (same_refl o)
item_begins T f i [] o (Choice ts) h e = any_mono (λ u. begins T u i) f ts (h ts refl refl) e
item_begins T f i (x ∷ es) o b h e = rw e (same_refl x)

no_cons : {A C : Type 0} {x : A} {l : List A} → x ∷ l ≡ [] → C
no_cons {A} e = absurd (subst full e tt)
  where
    full : List A → Type 0
    full [] = ⊥
    full (x ∷ l) = Unit {0}

choice_tags : (gs : List Tag) (ts : List ℕ) → map (identifier_of true) (explicit_tags (Choice ts) gs) ≡ [] → tags_below gs (Choice ts) ≡ ts
unfolding explicit_tags tags_below body_below
choice_tags [] ts e = refl
choice_tags (g ∷ gs) ts e = no_cons e

-- the alternatives that stand below a CHOICE without explicit tags
choice_below : (gs : List Tag) (b : Body) (ts : List ℕ) → map (identifier_of true) (explicit_tags b gs) ≡ [] → b ≡ Choice ts → tags_below gs b ≡ ts
choice_below gs b ts e q = ap (tags_below gs) q ∙ choice_tags gs ts (rw q at e)

choice_none : (b : Body) (ts : List ℕ) → b ≡ Choice ts → map (identifier_of true) (explicit_tags b []) ≡ []
unfolding explicit_tags
choice_none b ts e = rw e

-- no tag of a record that is not mistagged is UNIVERSAL 0

simple_some : (k : Simple) → universal (Plain k) ≡ 0 → ⊥
unfolding universal
simple_some Boolean e = omega arith
simple_some Integer e = omega arith
simple_some BitString e = omega arith
simple_some OctetString e = omega arith
simple_some Null e = omega arith
simple_some (Enumerated ns) e = omega arith
simple_some (Time Utc) e = omega arith
simple_some (Time Generalized) e = omega arith

universal_some : (b : Body) → is_choice b ≡ false → universal b ≡ 0 → ⊥
unfolding universal is_choice
universal_some (Plain k) c e = simple_some k e
universal_some (Sequence ms) c e = omega arith
universal_some (Set ms) c e = omega arith
universal_some (SequenceOf t) c e = omega arith
universal_some (SetOf t) c e = omega arith
universal_some (Choice ts) c e = true≢false c

choice_real : (gs : List Tag) → ((g : Tag) → In g gs → g.class ≡ 0 → ⊥) → Every Proper (map (identifier_of true) gs)
choice_real [] f = every_nil
choice_real (g ∷ gs) f =
    every_cons (record { tag = g; bit = true; is = refl; real = λ c z. f g (In.head refl) c }) (choice_real gs (λ h m. f h (In.tail m)))

before_real : (pre gs : List Tag) → ((b a : List Tag) (g h : Tag) → pre ++ gs ≡ b ++ (g ∷ h ∷ a) → g.class ≡ 0 → ⊥) → Every Proper (map (identifier_of true) (before gs))
unfolding before
before_real pre [] f = every_nil
before_real pre (g ∷ []) f = every_nil
before_real pre (g ∷ h ∷ gs) f =
    every_cons (record { tag = g; bit = true; is = refl; real = λ c z. f pre gs g h refl c })
    (before_real (pre ++ (g ∷ [])) (h ∷ gs) (λ b a x y e. f b a x y (sym (append_snoc pre g (h ∷ gs)) ∙ e)))

last_real : (b : Body) → (universal b ≡ 0 → ⊥) → (pre gs : List Tag)
    → ((bf : List Tag) (g : Tag) → pre ++ gs ≡ bf ++ (g ∷ []) → g.class ≡ 0 → (g.number ≡ universal b → ⊥) → ⊥)
    → (last b gs).class ≡ 0 → (last b gs).number ≡ 0 → ⊥
unfolding last
last_real b u pre [] f c z = u z
last_real b u pre (g ∷ []) f c z = f pre g refl c (λ e. u (sym e ∙ z))
last_real b u pre (g ∷ h ∷ gs) f c z = last_real b u (pre ++ (g ∷ [])) (h ∷ gs) (λ bf x e. f bf x (sym (append_snoc pre g (h ∷ gs)) ∙ e)) c z

body_inner : (gs : List Tag) (b : Body) → (Mistagged (record { tags = gs; body = b }) → ⊥) → Every Proper (map (identifier_of true) (explicit_tags b gs))
unfolding explicit_tags is_choice
body_inner gs (Plain k) f = before_real [] gs (λ b a g h e c. f (not_last b a g h e c))
body_inner gs (Sequence ms) f = before_real [] gs (λ b a g h e c. f (not_last b a g h e c))
body_inner gs (Set ms) f = before_real [] gs (λ b a g h e c. f (not_last b a g h e c))
body_inner gs (SequenceOf t) f = before_real [] gs (λ b a g h e c. f (not_last b a g h e c))
body_inner gs (SetOf t) f = before_real [] gs (λ b a g h e c. f (not_last b a g h e c))
body_inner gs (Choice ts) f = choice_real gs (λ g m c. f (on_choice g m c refl))

tag_real : (r : Record) → (Mistagged r → ⊥) → (g : Tag) (rest : List Tag) → r.tags ≡ g ∷ rest → (x : Bool) → is_choice r.body ≡ x → g.class ≡ 0 → g.number ≡ 0 → ⊥
tag_real r f g rest e true k c z = f (on_choice g (rw e (In.head refl)) c k)
tag_real r f g [] e false k c z = f (not_its_number [] g e c (λ q. universal_some r.body k (sym q ∙ z)))
tag_real r f g (h ∷ rest) e false k c z = f (not_last [] rest g h e c)

not_choice : (b : Body) → constructed b ≡ false → is_choice b ≡ false
unfolding constructed is_choice
not_choice (Plain k) e = refl
not_choice (Sequence ms) e = absurd (true≢false e)
not_choice (Set ms) e = absurd (true≢false e)
not_choice (SequenceOf t) e = absurd (true≢false e)
not_choice (SetOf t) e = absurd (true≢false e)
not_choice (Choice ts) e = absurd (true≢false e)

own_number : (r : Record) → (Mistagged r → ⊥) → is_choice r.body ≡ false → (last r.body r.tags).class ≡ 0 → (last r.body r.tags).number ≡ 0 → ⊥
own_number r f k = last_real r.body (universal_some r.body k) [] r.tags (λ bf g e c q. f (not_its_number bf g e c q))

own_real : (r : Record) → (Mistagged r → ⊥) → is_choice r.body ≡ false → Proper (own_tag r)
unfolding own_tag
own_real r f k =
    record {
      tag = last r.body r.tags;
      bit = constructed r.body;
      is = refl;
      real = own_number r f k;
    }

own_parts : (r : Record) → (Mistagged r → ⊥) → constructed r.body ≡ false → Proper (in_parts (own_tag r))
unfolding own_tag
own_parts r f k =
    let g = last r.body r.tags in
    record { tag = g; bit = true; is = ap (λ (b : Bool). in_parts (identifier_of b g)) k ∙ parts_of_lem g; real = own_number r f (not_choice r.body k) }

-- a number without a record breaks no rule

not_ended : {A C : Type 0} (b : List A) (x : A) (l : List A) → [] ≡ b ++ (x ∷ l) → C
not_ended [] x l e = no_cons (sym e)
not_ended (y ∷ b) x l e = no_cons (sym e)

absent_tagged : Mistagged absent → ⊥
unfolding is_choice
absent_tagged (missing e c) = true≢false c
absent_tagged (not_last b a g h e c) = not_ended b g (h ∷ a) e
absent_tagged (not_its_number b g e c q) = not_ended b g [] e
absent_tagged (on_choice g m c k) = Memᴰ.not-nil m

nested_none : (T : Table) (k t : ℕ) → below T t ≡ [] → Nested T k t
unfolding Nested
nested_none T zero t e = e
nested_none T (suc k) t e = λ a m. absurd (Memᴰ.not-nil (rw e at m))

-- the tag that identifier octets name, and that is a first tag of the record
record Named (T : Table) (t : ℕ) (i : List ℕ) : Type 0 where
  tag : Tag
  bit : Bool
  is : i ≡ identifier_of bit tag
  real : tag.class ≡ 0 → tag.number ≡ 0 → ⊥
  first : First T tag t

same_tag_lem : (g h : Tag) → (g.class ≡ h.class) × (g.number ≡ h.number) → g ≡ h
same_tag_lem g h e = λ i. record { class = e.0 i; number = e.1 i }

one_tag : (a b : Bool) (g h : Tag) → identifier_of a g ≡ identifier_of b h → g ≡ h
unfolding identifier_of
one_tag a b g h e = same_tag_lem g h (identifier_tag g.class a g.number h.class b h.number e)

module _ (b : List ℕ) (T : Table) (n : ℕ) (p : Passes b T n) where
  no_body : (t : ℕ) → n ≤ t → T t ≡ absent
  no_body t h = p.no_more t h

  tagged_all : (t : ℕ) → Mistagged (T t) → ⊥
  tagged_all t = test (ltb t n) (λ e. p.tagged t (ltb-true t n e)) (λ e m. absent_tagged (subst Mistagged (no_body t (ltb-false t n e)) m))

  ends_all : (t : ℕ) → Nested T n t
  unfolding tags_below body_below
  ends_all t = test (ltb t n) (λ e. p.ends t (ltb-true t n e)) (λ e. nested_none T n t (ap (λ (r : Record). tags_below r.tags r.body) (no_body t (ltb-false t n e))))

  few_parts : (r : Record) → r ≡ absent → length (siblings r.body) ≡ 0
  unfolding siblings
  few_parts r e = ap (λ (r : Record). length (siblings r.body)) e

  distinct_all : (t : ℕ) → Sharing T t → ⊥
  distinct_all t =
      test (ltb t n) (λ e. p.distinct t (ltb-true t n e)) (λ e x.
      let k = few_parts (T t) (no_body t (ltb-false t n e)) in
      let w = x.within in omega arith)

  untagged : (t : ℕ) → (T t).tags ≡ [] → is_choice (T t).body ≡ true
  untagged t e = test (is_choice (T t).body) (λ k. k) (λ k. absurd (tagged_all t (missing e k)))

  named : (k t : ℕ) (i : List ℕ) → begins_in T k t i ≡ true → Named T t i
  unfolding begins_in explicit own_tag
  named zero t i e = absurd (false≢true e)
  named (suc k) t i e = from (λ a. named k a i) (shown (λ a. begins_in T k a i) i (T t).tags (T t).body (untagged t) e)
    where
      from : ((a : ℕ) → begins_in T k a i ≡ true → Named T a i) → Shown (λ a. begins_in T k a i) i (T t).tags (T t).body → Named T t i
      from r (by_tag g rest bit eg ei) = record { tag = g; bit = bit; is = ei; real = tag_real (T t) (tagged_all t) g rest eg (is_choice (T t).body) refl; first = outermost rest eg }
      from r (by_alternative ts eg eb x) =
          let y = any_found (λ a. begins_in T k a i) ts x in
          let z = r y.element y.passes in
          let q : tags_below (T t).tags (T t).body ≡ ts = ap (λ (gs : List Tag). tags_below gs (T t).body) eg ∙ choice_below [] (T t).body ts (choice_none (T t).body ts eb) eb in
          record { tag = z.tag; bit = z.bit; is = z.is; real = z.real; first = inside {t = t} y.element (rw q y.among) z.first }

  -- below a CHOICE without tags
  next_below : (k t a : ℕ) (ts : List ℕ) → Nested T k t → explicit (T t) ≡ [] → (T t).body ≡ Choice ts → In a ts → (j : ℕ) × (k ≡ suc j) × Nested T j a
  unfolding Nested explicit
  next_below zero t a ts d e q m = absurd (Memᴰ.not-nil (rw (sym (choice_below (T t).tags (T t).body ts e q) ∙ d) at m))
  next_below (suc k) t a ts d e q m = (k, refl, d a (rw (choice_below (T t).tags (T t).body ts e q) m))

  -- what begins a record at all, begins it through as many CHOICEs as stand there
  bounded : (k j t : ℕ) (i : List ℕ) → Nested T k t → begins_in T j t i ≡ true → begins_in T (suc k) t i ≡ true
  unfolding begins_in
  bounded k zero t i d e = absurd (false≢true e)
  bounded k (suc j) t i d e =
      item_mono (λ a. begins_in T j a i) (λ a. begins_in T k a i) i (explicit (T t)) (own_tag (T t)) (T t).body
      (λ ts x q u m f. let (l, h, y) = next_below k t u ts d x q m in rw h (bounded l j u i y f)) e

  more : (k j t : ℕ) (i : List ℕ) → k ≤ j → begins_in T k t i ≡ true → begins_in T j t i ≡ true
  unfolding begins_in
  more zero j t i h e = absurd (false≢true e)
  more (suc k) zero t i h e = absurd (omega arith)
  more (suc k) (suc j) t i h e =
      item_mono (λ a. begins_in T k a i) (λ a. begins_in T j a i) i (explicit (T t)) (own_tag (T t)) (T t).body (λ ts x q u m f. more k j u i (omega arith) f) e

  begin_all : (t : ℕ) (i : List ℕ) → Begins T (explicit (T t)) (own_tag (T t)) (T t).body i → begins T t i ≡ true
  unfolding begins begins_in
  begin_all t i s =
      item_begins T (λ a. begins_in T 128 a i) i (explicit (T t)) (own_tag (T t)) (T t).body
      (λ ts x q u m f. let (l, h, y) = next_below n t u ts (ends_all t) x q m in more (suc l) 128 u i (omega (arith, p.few)) (bounded l 129 u i y f)) s

  -- two parts in one run do not begin alike
  abbrev Unlike : (ℕ → Bool) → List ℕ → Type 0
  Unlike on ts = (i j : ℕ) → i < j → j < length ts → ((k : ℕ) → i ≤ k → k < j → on k ≡ true)
      → (x : List ℕ) → begins T (get_or ts i 0) x ≡ true → begins T (get_or ts j 0) x ≡ true → ⊥

  -- the one use of the rule that no two share a first tag
  part_distinct : (t : ℕ) → Unlike (runs_on (T t).body) (siblings (T t).body)
  unfolding begins
  part_distinct t i j lt within run x e f =
      let a = named 129 (get_or (siblings (T t).body) i 0) x e in
      let b = named 129 (get_or (siblings (T t).body) j 0) x f in
      let q : a.tag ≡ b.tag = one_tag a.bit b.bit a.tag b.tag (sym a.is ∙ b.is) in
      distinct_all t (record {
        i = i;
        j = j;
        apart = lt;
        within = within;
        one_run = run;
        tag = a.tag;
        first = a.first;
        second = subst (λ g. First T g (get_or (siblings (T t).body) j 0)) (sym q) b.first;
      })

  -- all in one run
  distinct_from : (ts : List ℕ) → Unlike (λ k. true) ts → Distinct T ts
  unfolding Distinct
  distinct_from [] f = tt
  distinct_from (t ∷ ts) f = (
    λ x e. never _ (λ g.
        let y = any_found (λ u. begins T u x) ts g in
        let w = y.within in
        f 0 (suc y.place) (omega arith) (omega arith) (λ k _ _. refl) x e (rw y.there y.passes)),
    distinct_from ts (λ i j lt w _. f (suc i) (suc j) (omega arith) (omega arith) (λ k _ _. refl)),
  )

  abbrev optional_at : List Member → ℕ → Bool
  optional_at ms k = get_or (map (λ m. m.optional) ms) k false

  -- what is awaited together is the rest of a run
  record AwaitedAt (f : ℕ → Bool) (ms : List Member) : Type 0 where
    place : ℕ
    within : place < length (types ms)
    run : (k : ℕ) → k < place → optional_at ms k ≡ true
    passes : f (get_or (types ms) place 0) ≡ true

  awaited_found : (f : ℕ → Bool) (ms : List Member) → any f (awaited ms) ≡ true → AwaitedAt f ms
  unfolding any awaited
  awaited_found f [] e = absurd (false≢true e)
  awaited_found f (m ∷ ms) e =
      or_by (f m.type) _ e
      (λ h. record { place = 0; within = omega arith; run = λ k l. absurd (omega arith); passes = h })
      λ h.
      test m.optional
      (λ o.
      let y = awaited_found f ms (rw o at h) in
      record { place = suc y.place; within = omega (arith, y.within); run = passes_longer (optional_at (m ∷ ms)) y.place o y.run; passes = y.passes })
      λ o. absurd (false≢true (rw o at h))

  apart_from : (ms : List Member) → Unlike (optional_at ms) (types ms) → Apart T ms
  unfolding Apart
  apart_from [] f = tt
  apart_from (m ∷ ms) f = (
    λ x o e. never _ (λ g.
        let y = awaited_found (λ t. begins T t x) ms g in
        f 0 (suc y.place) (omega arith) (omega (arith, y.within)) (λ k _. passes_longer (optional_at (m ∷ ms)) y.place o y.run k) x e y.passes),
    apart_from ms (λ i j lt w r. f (suc i) (suc j) (omega arith) (omega arith) (passes_later (optional_at (m ∷ ms)) i j r)),
  )

  body_good : (b : Body) → Unlike (runs_on b) (siblings b) → GoodBody T b
  unfolding GoodBody siblings runs_on references
  body_good (Plain k) f = tt
  body_good (Sequence ms) f = apart_from ms f
  body_good (Set ms) f = distinct_from (types ms) f
  body_good (SequenceOf t) f = tt
  body_good (SetOf t) f = tt
  body_good (Choice ts) f = distinct_from ts f

  -- a table that passes gives all this
  pub good : Good T
  unfolding explicit begins
  good t =
      record {
        apart = body_good (T t).body (part_distinct t);
        begin = begin_all t;
        inner = body_inner (T t).tags (T t).body (tagged_all t);
        item = own_real (T t) (tagged_all t);
        parts = own_parts (T t) (tagged_all t);
        first = λ i e. let x = named 129 t i e in record { tag = x.tag; bit = x.bit; is = x.is; real = x.real };
      }
