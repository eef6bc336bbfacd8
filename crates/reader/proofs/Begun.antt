-- The code of an identifier stands for it: what begins a type is what the search finds under it, and the search goes step by step.
-- Assumes nothing.
use borrow.Author.Tests.{eqb-true, eqb-false, ne_eqb, ltb-true, ltb-false, leb-true}
use lib.Dec.{ltb, leb, eqb}
use mathlib.Core.Bool.{Bool, true, false, not, ◌&&◌, ◌||◌, false≢true}
use mathlib.Core.List.Memᴰ
use mathlib.Core.List.{List, [], ◌∷◌, Memᴰ as In}
use mathlib.Core.Path.{◌≡◌, refl, sym, ap, ◌∙◌}
use native.Mathlib.Omega.{arith}
use Prim.Native.Nat.{ℕ, zero, suc, ◌+◌, ◌≤◌, ◌<◌}
use Rattle.std.specs.Prelude.{Option, Some, None}
use Rattle.x690.specs.declared.ReadingCause.{ReadingCause}
use Rattle.octets.specs.Answer.{Answer, got, refused, if}
use Rattle.octets.specs.Lists.{any, all, same}
use Rattle.octets.specs.Numbers.{Octets}
use Rattle.octets.proofs.Lists.{both}
use Rattle.octets.proofs.Tests.{test}
use Rattle.x690.specs.Reading.{read_identifier}
use Rattle.x690.specs.Segments.{in_either, in_parts}
use Rattle.x690.proofs.Segments.{parts_identifier}
use Rattle.ber.specs.Codes.{code, code_of}
use Rattle.ber.proofs.Codes.{bit_small, code_short, code_long, read_code_small, code_same}
use Rattle.table.specs.Syntax.{Tag, Body, Plain, Sequence, Set, SequenceOf, SetOf, Choice, Record, Table, is_choice, constructed}
use Rattle.table.specs.Rules.{tags_below, body_below, below, siblings, missing}
use Rattle.table.specs.Passes.{Nested, Passes}
use Rattle.table.proofs.Promises.{shaped_classes}
use Rattle.records.specs.Entries.{more, outermost_code}
use Rattle.coding.specs.Content.{segmented}
use Rattle.coding.specs.Tags.{identifier_of, last, before, explicit_tags, own_tag, explicit}
use Rattle.coding.specs.Awaited.{begins_body, begins_item, begins_in, begins}
use Rattle.coding.specs.Reading.{passes, begun}
use Rattle.reader.specs.Codes.{untagged, none, peeked, first_of, own_either, either, coded, starts_with, under, hit, pick, among, search_in}
use Rattle.reader.specs.declared.search.Under.{Under}
use Rattle.reader.proofs.Starts.{either_none, either_one, either_more, coded_one, coded_other}

-- what a table that passes says of the tags of a record
abbrev pub Fine : Tag → Type 0
Fine g = (g.class < 4) × (g.number < 65536)

abbrev pub AllFine : List Tag → Type 0
AllFine [] = Unit {0}
AllFine (g ∷ gs) = Fine g × AllFine gs

pub record Fit (r : Record) : Type 0 where
  pub tagged : r.tags ≡ [] → is_choice r.body ≡ true
  pub fine : AllFine r.tags

pub code_below : (c : ℕ) (b : Bool) (n : ℕ) → c < 4 → n < 65536 → code c b n < 16777216
code_below c b n h k =
    let s = bit_small b in
    test (ltb n 31)
    (λ e. rw (code_short c b n (ltb-true n 31 e)) (omega (arith, ltb-true n 31 e)))
    λ e. rw (code_long c b n (ltb-false n 31 e)) (omega arith)

outermost_below : (g : Tag) (gs : List Tag) (b : Body) → Fine g → outermost_code (g ∷ gs) b < 16777216
unfolding outermost_code
outermost_below g gs b h = code_below g.class (more gs || constructed b) g.number h.0 h.1

-- a CHOICE without tags
pub record Bare (r : Record) : Type 0 where
  pub untold : explicit r ≡ []
  pub alternatives : List ℕ
  pub is : r.body ≡ Choice alternatives
  pub under : tags_below r.tags r.body ≡ siblings r.body

bare_of : (gs : List Tag) (b : Body) → (gs ≡ [] → is_choice b ≡ true) → AllFine gs → outermost_code gs b ≡ untagged → Bare (record { tags = gs; body = b })
unfolding explicit explicit_tags tags_below body_below siblings is_choice
bare_of [] (Choice ts) t f e = record { untold = refl; alternatives = ts; is = refl; under = refl }
bare_of [] (Plain k) t f e = absurd (false≢true (t refl))
bare_of [] (Sequence ms) t f e = absurd (false≢true (t refl))
bare_of [] (Set ms) t f e = absurd (false≢true (t refl))
bare_of [] (SequenceOf u) t f e = absurd (false≢true (t refl))
bare_of [] (SetOf u) t f e = absurd (false≢true (t refl))
bare_of (g ∷ gs) b t f e = let h = outermost_below g gs b f.0 in absurd (omega (arith, e))

pub bare : (r : Record) → Fit r → first_of r ≡ untagged → Bare r
bare r f e = bare_of r.tags r.body f.tagged f.fine e

pub bare_either : (r : Record) → Bare r → either r ≡ false
unfolding is_choice
bare_either r x = either_none r (ap is_choice x.is) 0

pub first_most : (r : Record) → Fit r → first_of r ≤ untagged
unfolding outermost_code
first_most r f = go r.tags f.fine
  where
    go : (gs : List Tag) → AllFine gs → outermost_code gs r.body ≤ untagged
    go [] h = omega arith
    go (g ∷ gs) h = let x = outermost_below g gs r.body h.0 in omega arith

hit_pick : (x y : Option Under) → hit (pick x y) ≡ (hit x || hit y)
unfolding pick
hit_pick None y = refl
hit_pick (Some x) y = refl

hit_among : (f : ℕ → Bool) (g : ℕ → Option Under) → ((a : ℕ) → f a ≡ hit (g a)) → (ts : List ℕ) → any f ts ≡ hit (among g ts)
unfolding any among
hit_among f g h [] = refl
hit_among f g h (t ∷ ts) = rw (hit_pick (g t) (among g ts), h t, hit_among f g h ts) refl

any_none : (ts : List ℕ) → any (λ (a : ℕ). false) ts ≡ false
unfolding any
any_none [] = refl
any_none (t ∷ ts) = any_none ts

-- one step of the search
abbrev Over : ℕ → Bool → ℕ → ℕ → (ℕ → Option Under) → List ℕ → Option Under
Over t d first c g ts = if (coded d first c) (under t 0) λ _. if (not (eqb first untagged)) None λ _. among g ts

abbrev pub Step : Table → ℕ → ℕ → (ℕ → Option Under) → Option Under
Step T t c f = Over t (either (T t)) (first_of (T t)) c f (siblings (T t).body)

over_tagged : (t : ℕ) (d : Bool) (c e : ℕ) (g : ℕ → Option Under) (ts : List ℕ) → e < untagged → hit (Over t d e c g ts) ≡ coded d e c
unfolding if
over_tagged t d c e g ts h = let q = ne_eqb e untagged (λ z. omega arith) in test (coded d e c) (λ f. rw f refl) (λ f. rw (f, q) refl)

over_choice : (t : ℕ) (d : Bool) (c : ℕ) (g : ℕ → Option Under) (ts : List ℕ) → (untagged ≡ c → ⊥) → (untagged + 32 ≡ c → ⊥) → Over t d untagged c g ts ≡ among g ts
unfolding if
over_choice t d c g ts h k = rw (coded_other d untagged c h k) refl

pub eqb_turn : (a b : ℕ) → eqb a b ≡ eqb b a
eqb_turn a b = test (eqb a b) (λ e. rw (eqb-true a b e) refl) λ e. e ∙ sym (ne_eqb b a (λ z. eqb-false a b e (sym z)))

-- the constructed form has bit 6 set, in its octets and in its code
pub code_parts : (c n : ℕ) → code c true n ≡ code c false n + 32
code_parts c n =
    test (ltb n 31)
    (λ e. let k = ltb-true n 31 e in rw (code_short c true n k, code_short c false n k) (omega arith))
    λ e. let k = ltb-false n 31 e in rw (code_long c true n k, code_long c false n k) (omega arith)

pub parts_tag : (q : Tag) → in_parts (identifier_of false q) ≡ identifier_of true q
unfolding identifier_of
parts_tag q = parts_identifier q.class q.number

-- an identifier that is read, and one that is not
module _ (t : ℕ) (f : ℕ → Bool) (g : ℕ → Option Under) (ih : (a : ℕ) → f a ≡ hit (g a)) where
  module _ (s i w : List ℕ) (o : Octets s) (e : read_identifier s ≡ got i w) where
    its_code : (q : Tag) (b : Bool) → Fine q → same i (identifier_of b q) ≡ eqb (code q.class b q.number) (code_of i)
    unfolding identifier_of
    its_code q b h = code_same s i w o e q.class b q.number h.0 h.1 ∙ eqb_turn (code_of i) (code q.class b q.number)

    by_tag : (q : Tag) (b : Bool) (ts : List ℕ) → Fine q → same i (identifier_of b q) ≡ hit (Over t false (code q.class b q.number) (code_of i) g ts)
    by_tag q b ts h =
        let c = code q.class b q.number in
        let z = code_below q.class b q.number h.0 h.1 in
        its_code q b h ∙ sym (coded_one c (code_of i)) ∙ sym (over_tagged t false (code_of i) c g ts (omega (arith, z)))

    -- the tag of a string, which may be constructed too
    by_either : (q : Tag) (d : Bool) (ts : List ℕ) → Fine q
        → (same i (identifier_of false q) || (d && same i (in_parts (identifier_of false q)))) ≡ hit (Over t d (code q.class false q.number) (code_of i) g ts)
    unfolding coded
    by_either q d ts h =
        let c = code q.class false q.number in
        let z = code_below q.class false q.number h.0 h.1 in
        rw (parts_tag q, its_code q false h, its_code q true h, code_parts q.class q.number) (sym (over_tagged t d (code_of i) c g ts (omega (arith, z))))

    step_read : (gs : List Tag) (b : Body) → (gs ≡ [] → is_choice b ≡ true) → AllFine gs
        → begins_item f i (explicit (record { tags = gs; body = b })) (own_tag (record { tags = gs; body = b })) b ≡ hit (Over t (either (record { tags = gs; body = b })) (outermost_code gs b) (code_of i) g (siblings b))
    unfolding explicit own_tag explicit_tags before last begins_item begins_body outermost_code constructed is_choice siblings own_either
    step_read [] (Choice ts) k h = let z = read_code_small s i w o e in rw (over_choice t _ (code_of i) g ts (λ y. omega arith) (λ y. omega arith)) (hit_among f g ih ts)
    step_read [] (Plain x) k h = absurd (false≢true (k refl))
    step_read [] (Sequence ms) k h = absurd (false≢true (k refl))
    step_read [] (Set ms) k h = absurd (false≢true (k refl))
    step_read [] (SequenceOf u) k h = absurd (false≢true (k refl))
    step_read [] (SetOf u) k h = absurd (false≢true (k refl))
    step_read (q ∷ []) (Choice ts) k h = rw (either_one q (Choice ts)) (by_tag q true ts h.0)
    step_read (q ∷ []) (Plain x) k h = rw (either_one q (Plain x)) (by_either q (in_either (segmented x)) _ h.0)
    step_read (q ∷ []) (Sequence ms) k h = rw (either_one q (Sequence ms)) (by_tag q true _ h.0)
    step_read (q ∷ []) (Set ms) k h = rw (either_one q (Set ms)) (by_tag q true _ h.0)
    step_read (q ∷ []) (SequenceOf u) k h = rw (either_one q (SequenceOf u)) (by_tag q true _ h.0)
    step_read (q ∷ []) (SetOf u) k h = rw (either_one q (SetOf u)) (by_tag q true _ h.0)
    step_read (q ∷ p ∷ gs) (Choice ts) k h = rw (either_more q p gs (Choice ts)) (by_tag q true ts h.0)
    step_read (q ∷ p ∷ gs) (Plain x) k h = rw (either_more q p gs (Plain x)) (by_tag q true _ h.0)
    step_read (q ∷ p ∷ gs) (Sequence ms) k h = rw (either_more q p gs (Sequence ms)) (by_tag q true _ h.0)
    step_read (q ∷ p ∷ gs) (Set ms) k h = rw (either_more q p gs (Set ms)) (by_tag q true _ h.0)
    step_read (q ∷ p ∷ gs) (SequenceOf u) k h = rw (either_more q p gs (SequenceOf u)) (by_tag q true _ h.0)
    step_read (q ∷ p ∷ gs) (SetOf u) k h = rw (either_more q p gs (SetOf u)) (by_tag q true _ h.0)

  step_none : ((a : ℕ) → hit (g a) ≡ false) → (d : Bool) (gs : List Tag) (b : Body) → AllFine gs → hit (Over t d (outermost_code gs b) none g (siblings b)) ≡ false
  unfolding outermost_code
  step_none never d [] b h =
      rw (over_choice t d none g (siblings b) (λ y. omega arith) (λ y. omega arith))
      (sym (hit_among (λ a. false) g (λ a. sym (never a)) (siblings b)) ∙ any_none (siblings b))
  step_none never d (q ∷ gs) b h =
      let c = outermost_code (q ∷ gs) b in
      let z : c < 16777216 = outermost_below q gs b h.0 in
      over_tagged t d none c g (siblings b) (omega (arith, z)) ∙ coded_other d c none (λ y. omega (arith, z, y)) (λ y. omega (arith, z, y))

module _ (T : Table) (F : (t : ℕ) → Fit (T t)) where
  search_read : (s i w : List ℕ) → Octets s → read_identifier s ≡ got i w → (k t : ℕ) → begins_in T k t i ≡ hit (search_in T k t (code_of i))
  unfolding begins_in search_in
  search_read s i w o e zero t = refl
  search_read s i w o e (suc k) t =
      step_read t (λ a. begins_in T k a i) (λ a. search_in T k a (code_of i)) (λ a. search_read s i w o e k a) s i w o e (T t).tags (T t).body (F t).tagged (F t).fine

  search_nothing : (k t : ℕ) → hit (search_in T k t none) ≡ false
  unfolding search_in
  search_nothing zero t = refl
  search_nothing (suc k) t = step_none t (λ a. hit (search_in T k a none)) (λ a. search_in T k a none) (λ a. refl)
      (λ a. search_nothing k a) (either (T t)) (T t).tags (T t).body (F t).fine

  pub begun_hit : (t : ℕ) (s : List ℕ) → Octets s → begun T t s ≡ hit (search_in T 129 t (peeked (read_identifier s)))
  unfolding begun passes begins peeked
  begun_hit t s o = go (read_identifier s) refl
    where
      go : (x : Answer ReadingCause (List ℕ)) → read_identifier s ≡ x → begun T t s ≡ hit (search_in T 129 t (peeked (read_identifier s)))
      go (got i w) e = rw e (search_read s i w o e 129 t)
      go (refused c l) e = rw e (sym (search_nothing 129 t))

-- CHOICEs without tags end
nested_none : (T : Table) (k t : ℕ) → below T t ≡ [] → Nested T k t
unfolding Nested
nested_none T zero t e = e
nested_none T (suc k) t e = λ a m. absurd (Memᴰ.not-nil (rw e at m))

nested_more : (T : Table) (k j t : ℕ) → k ≤ j → Nested T k t → Nested T j t
unfolding Nested
nested_more T zero j t h d = nested_none T j t d
nested_more T (suc k) zero t h d = absurd (omega arith)
nested_more T (suc k) (suc j) t h d = λ a m. nested_more T k j a (omega arith) (d a m)

among_same : (f g : ℕ → Option Under) (ts : List ℕ) → ((a : ℕ) → In a ts → f a ≡ g a) → among f ts ≡ among g ts
unfolding among
among_same f g [] h = refl
among_same f g (t ∷ ts) h = rw (h t (In.head refl), among_same f g ts (λ a m. h a (In.tail m))) refl

is_false : (b : Bool) → not b ≡ false → b ≡ true
is_false true e = refl
is_false false e = sym e

module _ (T : Table) (F : (t : ℕ) → Fit (T t)) where
  step_same : (t c : ℕ) (f g : ℕ → Option Under) → ((a : ℕ) → In a (below T t) → f a ≡ g a) → Step T t c f ≡ Step T t c g
  unfolding if
  step_same t c f g h =
      test (starts_with (T t) c) (λ e. rw e refl) λ e.
      test (not (eqb (first_of (T t)) untagged)) (λ k. rw (e, k) refl) λ k.
      let b = bare (T t) (F t) (eqb-true (first_of (T t)) untagged (is_false _ k)) in
      rw (e, k) (among_same f g (siblings (T t).body) (λ a m. h a (rw b.under m)))

  -- more fuel than CHOICEs finds nothing more
  stable : (k j t c : ℕ) → suc k ≤ j → Nested T k t → search_in T j t c ≡ search_in T (suc k) t c
  unfolding search_in Nested
  stable k zero t c h d = absurd (omega arith)
  stable zero (suc j) t c h d = step_same t c (λ a. search_in T j a c) (λ a. search_in T zero a c) (λ a m. absurd (Memᴰ.not-nil (rw d at m)))
  stable (suc k) (suc j) t c h d = step_same t c (λ a. search_in T j a c) (λ a. search_in T (suc k) a c) (λ a m. stable k j a c (omega arith) (d a m))

  pub search_step : (t c : ℕ) → Nested T 128 t → search_in T 129 t c ≡ Step T t c (λ a. search_in T 129 a c)
  unfolding search_in Nested
  search_step t c d = step_same t c (λ a. search_in T 128 a c) (λ a. search_in T 129 a c) (λ a m. sym (stable 127 129 a c (omega arith) (d a m)))

-- a table that passes gives this
tags_fine : (gs : List Tag) → all (λ g. leb g.class 3) gs ≡ true → ((g : Tag) → In g gs → g.number < 65536) → AllFine gs
unfolding all
tags_fine [] e f = tt
tags_fine (g ∷ gs) e f =
    let s = both (leb g.class 3) (all (λ g. leb g.class 3) gs) e in
    let h = leb-true g.class 3 s.0 in
    ((omega arith, f g (In.head refl)), tags_fine gs s.1 (λ h i. f h (In.tail i)))

module _ (b : List ℕ) (T : Table) (n : ℕ) (p : Passes b T n) where
  pub fit : (t : ℕ) → Fit (T t)
  unfolding is_choice
  fit t =
      test (ltb t n)
      (λ e.
      let l = ltb-true t n e in
      record {
        tagged = λ z. test (is_choice (T t).body) (λ k. k) (λ k. absurd (p.tagged t l (missing z k)));
        fine = tags_fine (T t).tags (shaped_classes (T t) (p.shaped t l)) (p.tag_numbers t l);
      })
      λ e. rw (p.no_more t (ltb-false t n e)) (record { tagged = λ z. refl; fine = tt })

  pub nested : (t : ℕ) → Nested T n t
  unfolding tags_below body_below
  nested t =
      test (ltb t n) (λ e. p.ends t (ltb-true t n e))
      λ e. nested_none T n t (ap (λ (r : Record). tags_below r.tags r.body) (p.no_more t (ltb-false t n e)))

  pub nested_all : (t : ℕ) → Nested T 128 t
  nested_all t = nested_more T n 128 t p.few (nested t)
