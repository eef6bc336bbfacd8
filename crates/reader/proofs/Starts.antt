-- Codes that begin a record: the code of its first identifier and, of a string, that of the constructed form; and what its entry says of them.
-- Assumes nothing.
use borrow.Author.Tests.{eq-eqb, ne_eqb, eqb-true}
use lib.Dec.{eqb}
use lib.ListN.{length}
use mathlib.Core.Bool.{Bool, true, false, ◌&&◌, ◌||◌, false≢true}
use mathlib.Core.List.{List, [], ◌∷◌}
use mathlib.Core.Path.{◌≡◌, refl, sym, ap, ◌∙◌}
use native.Mathlib.Omega.{arith}
use Prim.Native.Nat.{ℕ, ◌+◌, ◌-◌, ◌≤◌}
use Rattle.octets.specs.Answer.{if}
use Rattle.octets.proofs.Tests.{test, or_by, and_left, and_right}
use Rattle.x690.specs.Segments.{in_either}
use Rattle.dates.specs.declared.TimeKind.TheVariants.{Utc, Generalized}
use Rattle.table.specs.Syntax.{Tag, Body, Plain, Sequence, Set, SequenceOf, SetOf, Choice, Record, is_choice}
use Rattle.table.specs.Syntax.{Boolean, Integer, BitString, OctetString, Null, Enumerated, Time}
use Rattle.table.specs.Octets.{kind}
use Rattle.kinds.specs.Kinds.{octet_of}
use Rattle.records.specs.Entries.{all_but_last, explicit_count}
use Rattle.records.specs.Descriptors.{described, Describes}
use Rattle.records.specs.declared.descriptor.Descriptor.{Descriptor}
use Rattle.records.proofs.Promises.{entered_kind}
use Rattle.coding.specs.Content.{segmented}
use Rattle.reader.specs.Codes.{first_of, own_either, either_at, either, coded}
use Rattle.reader.specs.Records.{Begins}

-- tests of two
pub and_true : (x : Bool) → (x && true) ≡ x
and_true true = refl
and_true false = refl

pub and_false : (x : Bool) → (x && false) ≡ false
and_false true = refl
and_false false = refl

-- which identifiers may have either bit 6: not that of a CHOICE without tags, and none but the last
own_none : (b : Body) → is_choice b ≡ true → own_either b ≡ false
unfolding own_either is_choice
own_none (Choice ts) e = refl
own_none (Plain k) e = absurd (false≢true e)
own_none (Sequence ms) e = absurd (false≢true e)
own_none (Set ms) e = absurd (false≢true e)
own_none (SequenceOf t) e = absurd (false≢true e)
own_none (SetOf t) e = absurd (false≢true e)

pub either_none : (r : Record) → is_choice r.body ≡ true → (j : ℕ) → either_at r j ≡ false
unfolding either_at
either_none r e j = rw (own_none r.body e) refl

pub either_one : (g : Tag) (b : Body) → either (record { tags = g ∷ []; body = b }) ≡ own_either b
unfolding either_at own_either explicit_count is_choice if
either_one g (Plain k) = and_true (in_either (segmented k))
either_one g (Sequence ms) = refl
either_one g (Set ms) = refl
either_one g (SequenceOf t) = refl
either_one g (SetOf t) = refl
either_one g (Choice ts) = refl

pub either_more : (g h : Tag) (gs : List Tag) (b : Body) → either (record { tags = g ∷ h ∷ gs; body = b }) ≡ false
unfolding either_at own_either explicit_count is_choice if
either_more g h gs (Plain k) = go (in_either (segmented k))
  where
    go : (x : Bool) → (x && eqb (all_but_last (length (g ∷ h ∷ gs))) 0) ≡ false
    go true = rw (ne_eqb (length (g ∷ h ∷ gs)) 0 (λ e. omega arith)) (ne_eqb (length (g ∷ h ∷ gs) - 1) 0 (λ e. omega arith))
    go false = refl
either_more g h gs (Sequence ms) = refl
either_more g h gs (Set ms) = refl
either_more g h gs (SequenceOf t) = refl
either_more g h gs (SetOf t) = refl
either_more g h gs (Choice ts) = refl

-- codes that may be of either form
pub coded_one : (a c : ℕ) → coded false a c ≡ eqb a c
unfolding coded
coded_one a c = test (eqb a c) (λ e. rw e refl) λ e. rw e refl

pub coded_is : (e : Bool) (a c : ℕ) → a ≡ c → coded e a c ≡ true
unfolding coded
coded_is e a c q = rw (eq-eqb a c q) refl

pub coded_parts : (e : Bool) (a c : ℕ) → e ≡ true → a + 32 ≡ c → coded e a c ≡ true
unfolding coded
coded_parts e a c t q = rw (t, eq-eqb (a + 32) c q) (or_true (eqb a c))
  where
    or_true : (x : Bool) → (x || true) ≡ true
    or_true true = refl
    or_true false = refl

pub coded_by : {X : Type 0} (e : Bool) (a c : ℕ) → coded e a c ≡ true → (a ≡ c → X) → (e ≡ true → a + 32 ≡ c → X) → X
unfolding coded
coded_by e a c q f g =
    or_by (eqb a c) (e && eqb (a + 32) c) q (λ x. f (eqb-true a c x))
    λ x. g (and_left e (eqb (a + 32) c) x) (eqb-true (a + 32) c (and_right e (eqb (a + 32) c) x))

pub coded_other : (e : Bool) (a c : ℕ) → (a ≡ c → ⊥) → (a + 32 ≡ c → ⊥) → coded e a c ≡ false
unfolding coded
coded_other true a c f g = rw (ne_eqb a c f, ne_eqb (a + 32) c g) refl
coded_other false a c f g = rw (ne_eqb a c f) refl

-- it is no lower
pub coded_least : (e : Bool) (a c : ℕ) → coded e a c ≡ true → a ≤ c
coded_least e a c q = coded_by e a c q (λ x. omega arith) λ _ x. omega arith

-- by an entry: the kinds 3 and 4 are the strings
pub string_kind : (b : Body) → (eqb (kind b) 3 || eqb (kind b) 4) ≡ own_either b
unfolding kind own_either segmented
string_kind (Plain Boolean) = refl
string_kind (Plain Integer) = refl
string_kind (Plain BitString) = refl
string_kind (Plain OctetString) = refl
string_kind (Plain Null) = refl
string_kind (Plain (Enumerated ns)) = refl
string_kind (Plain (Time Utc)) = refl
string_kind (Plain (Time Generalized)) = refl
string_kind (Sequence ms) = refl
string_kind (Set ms) = refl
string_kind (SequenceOf t) = refl
string_kind (SetOf t) = refl
string_kind (Choice ts) = refl

module _ {b : List ℕ} {e : Descriptor} {r : Record} (x : Describes b e r) (j : ℕ) where
  pub either_entry : (g : Bool) → g ≡ (eqb (octet_of e.kind) 3 || eqb (octet_of e.kind) 4) → e.explicit ≡ j → either_at r j ≡ g
  unfolding either_at
  either_entry g eg q =
      let s : g ≡ own_either r.body = eg ∙ ap (λ (k : ℕ). eqb k 3 || eqb k 4) (entered_kind x.entered) ∙ string_kind r.body in
      rw (← s, eq-eqb (explicit_count r) j (sym x.entered.explicit ∙ q)) (and_true g)

  pub either_explicit : (e.explicit ≡ j → ⊥) → either_at r j ≡ false
  unfolding either_at
  either_explicit n = rw (ne_eqb (explicit_count r) j (λ z. n (x.entered.explicit ∙ z))) (and_false (own_either r.body))

-- the ways of the test of an entry
module _ (w code f : ℕ) (ef : f ≡ (described w).code) where
  pub begins_itself : f ≡ code → Begins w code true
  begins_itself q b r x = sym (coded_is (either r) (first_of r) code (sym x.entered.code ∙ sym ef ∙ q))

  module _ (n : f ≡ code → ⊥) where
    other_first : {b : List ℕ} {r : Record} → Describes b (described w) r → first_of r ≡ code → ⊥
    other_first x z = n (ef ∙ x.entered.code ∙ z)

    pub begins_not : (f + 32 ≡ code → ⊥) → Begins w code false
    begins_not k b r x = sym (coded_other (either r) (first_of r) code (other_first x) (λ z. k (ap (λ (i : ℕ). i + 32) (ef ∙ x.entered.code) ∙ z)))

    module _ (e : Descriptor) (ee : e ≡ described w) where
      pub begins_under : (e.explicit ≡ 0 → ⊥) → Begins w code false
      begins_under k b r x =
          rw (either_explicit x 0 (λ z. k (ap (λ (i : Descriptor). i.explicit) ee ∙ z)))
          (sym (coded_one (first_of r) code ∙ ne_eqb (first_of r) code (other_first x)))

      pub begins_string : f + 32 ≡ code → e.explicit ≡ 0 → (g : Bool) → g ≡ (eqb (octet_of e.kind) 3 || eqb (octet_of e.kind) 4) → Begins w code g
      unfolding coded
      begins_string q z g eg b r x =
          let h = either_entry x 0 g (eg ∙ ap (λ (i : Descriptor). eqb (octet_of i.kind) 3 || eqb (octet_of i.kind) 4) ee) (ap (λ (i : Descriptor). i.explicit) (sym ee) ∙ z) in
          let p : first_of r + 32 ≡ code = ap (λ (i : ℕ). i + 32) (sym (ef ∙ x.entered.code)) ∙ q in
          rw (h, ne_eqb (first_of r) code (other_first x), eq-eqb (first_of r + 32) code p) (sym (and_true g))
