-- The size of simple contents, by the kind.
-- Assumes nothing.
use borrow.Author.Tests.{ne_eqb}
use lib.Dec.{leb, eqb}
use lib.IntN.{ℤ, pos, negsuc}
use lib.ListN.{length, get_or, drop}
use mathlib.Core.Bool.{Bool, true, false, not, ◌&&◌}
use mathlib.Core.List.{List, [], ◌∷◌}
use mathlib.Core.Logic.{◌⊎◌, inl, inr}
use mathlib.Core.Path.{◌≡◌, refl, sym, ◌∙◌}
use native.Mathlib.Omega.{arith}
use Prim.Native.Nat.{ℕ, ◌+◌, ◌*◌, ◌≤◌, ◌<◌}
use Rattle.std.specs.Prelude.{Option, None}
use Rattle.std.specs.Bool.{then_some}
use Rattle.octets.specs.Answer.{Answer, got, refused, if, none_left}
use Rattle.octets.specs.Numbers.{unless_zero}
use Rattle.octets.proofs.Tests.{test}
use Rattle.octets.proofs.Lists.{both}
use Rattle.x690.specs.declared.ReadingCause.{ReadingCause}
use Rattle.x690.specs.declared.ReadingCause.TheVariants.{Contents}
use Rattle.x690.specs.Integer.{integer_of, minimal, eight}
use Rattle.x690.specs.BitString.{unused, masked}
use Rattle.x690.specs.Time.{time_of, is_time}
use Rattle.x690.proofs.BitString.{length_masked}
use Rattle.simple.specs.Integers.{integer_in}
use Rattle.dates.specs.Own.{time_octets}
use Rattle.dates.specs.declared.TimeKind.{TimeKind}
use Rattle.dates.specs.declared.TimeKind.TheVariants.{Utc, Generalized}
use Rattle.table.specs.Syntax.{Record, Body, Plain, BitString as Bits, Enumerated as Numbers}
use Rattle.table.specs.Fields.{time_kind}
use Rattle.table.specs.Reading.{numbers_at, body_at}
use Rattle.kinds.specs.Kinds.{octet_of}
use Rattle.kinds.specs.declared.Kind.{Kind}
use Rattle.kinds.specs.declared.Kind.TheVariants.{Boolean, Integer, BitString, OctetString, Null, Enumerated, UtcTime, GeneralizedTime}
use Rattle.records.specs.Entries.{lists_number}
use Rattle.records.specs.Descriptors.{Describes}
use Rattle.records.specs.declared.descriptor.Descriptor.{Descriptor}
use Rattle.records.proofs.Promises.{entered_enumerated}
use Rattle.coding.specs.Value.{Leaf, boolean, integer, bits, string, enumerated, time, leaf_octets}
use Rattle.coding.specs.Content.{listed, segmented}
use Rattle.coding.specs.Reading.{natural, is_listed, decode}
use Rattle.reader.specs.Codes.{own_either}
use Rattle.reader.specs.Leaves.{is_in_segments, leaf_size}
use Rattle.reader.specs.Weights.{weight, leaf_weight, size_by}
use Rattle.reader.proofs.Starts.{and_true, and_false}
use Rattle.reader.proofs.LeafKinds.{leaf_three}

-- The code's answer: a size, or none where contents are wrong.
abbrev Sized : Option ℕ → ℕ → Type 0
Sized r m = (r ≡ unless_zero m) × (m < 16386)

-- what fails a test is wrong
abbrev Tested : Bool → Answer ReadingCause Leaf → Answer ReadingCause Leaf
Tested s y = if (not s) (refused Contents 0) λ _. y

-- contents that pass one test, two, or three are a leaf
module _ (x : Leaf) {n : ℕ} (en : n ≡ leaf_size x) (l : n < 16386) {r : Option ℕ} where
  by_one : (s : Bool) → r ≡ then_some s n → Sized r (weight (Tested s (got x [])))
  unfolding weight if
  by_one true e = rw (← en, ne_eqb n 0 (λ z. omega (arith, leaf_three x))) (e, l)
  by_one false e = (e, omega arith)

  by_two : (s t : Bool) → r ≡ then_some (s && t) n → Sized r (weight (Tested s (Tested t (got x []))))
  unfolding weight if
  by_two true t e = by_one t e
  by_two false t e = (e, omega arith)

  by_three : (s t u : Bool) → r ≡ then_some ((s && t) && u) n → Sized r (weight (Tested s (Tested t (Tested u (got x [])))))
  unfolding weight if
  by_three true t u e = by_two t u e
  by_three false t u e = (e, omega arith)

-- what comes in segments has no size by itself
by_segments : (g t : Bool) (n m : ℕ) {r : Option ℕ} → r ≡ then_some (not g && t) n → (r ≡ then_some t n → Sized r m) → Sized r (if g 0 λ _. m)
unfolding if
by_segments true t n m e k = (e, omega arith)
by_segments false t n m e k = k e

-- the code's answer by the kind of the contents c, whose own part is at p, in an item that begins with the octet `lead`
module _ (b : List ℕ) (p lead : ℕ) where
  abbrev Its : List ℕ → Option ℕ → Kind → Type 0
  Its c r k = Sized r (size_by (body_at b (octet_of k) p) lead c)

  module _ {r : Option ℕ} where
    pub boolean_size : (c : List ℕ) → r ≡ then_some (eqb (length c) 1) 4 → Its c r Boolean
    unfolding size_by own_either segmented leaf_weight body_at decode if leaf_octets
    boolean_size c e = by_one (boolean (not (eqb (get_or c 0 0) 0))) refl (omega arith) (eqb (length c) 1) e

    pub integer_size : (c : List ℕ) {t : Bool} → r ≡ then_some t 11 → t ≡ (minimal c && leb (length c) 8) → Its c r Integer
    unfolding size_by own_either segmented leaf_weight body_at decode if leaf_octets eight
    integer_size c e f = by_two (integer (integer_of c)) refl (omega arith) (minimal c) (leb (length c) 8) (rw f at e)

    pub bits_size : (c : List ℕ) {g t : Bool} → length c ≤ 8192 → r ≡ then_some t (length c + 4) → g ≡ is_in_segments lead
        → t ≡ (not g && (not (none_left c) && unused (get_or c 0 0) (drop 1 c))) → Its c r BitString
    unfolding size_by own_either segmented leaf_weight body_at weight decode if none_left leaf_octets
    bits_size [] l e f h = by_segments (is_in_segments lead) false 4 0 (rw (h, f) at e) λ g. (g, omega arith)
    bits_size (u ∷ d) l e f h =
        by_segments (is_in_segments lead) (unused u d) (length (u ∷ d) + 4) (weight (decode Bits 0 (u ∷ d) [])) (rw (h, f) at e)
        λ g. by_one (bits u (masked u d)) (omega (arith, length_masked u d)) (omega arith) (unused u d) g

    pub string_size : (c : List ℕ) {g : Bool} → length c ≤ 8192 → r ≡ then_some (not g) (length c + 5) → g ≡ is_in_segments lead → Its c r OctetString
    unfolding size_by own_either segmented leaf_weight body_at weight decode if leaf_octets
    string_size c l e f =
        by_segments (is_in_segments lead) true (length c + 5) (leaf_size (string c)) (rw and_true (rw f at e))
        λ h. by_one (string c) (omega arith) (omega arith) true h

    pub null_size : (c : List ℕ) → r ≡ then_some (eqb (length c) 0) 3 → Its c r Null
    unfolding size_by own_either segmented leaf_weight body_at weight decode if none_left leaf_octets
    null_size [] e = (e, omega arith)
    null_size (u ∷ d) e = (rw (ne_eqb (length (u ∷ d)) 0 (λ z. omega arith)) at e, omega arith)

    pub number_size : (c : List ℕ) {t u : Bool} → r ≡ then_some u 5 → t ≡ (minimal c && leb (length c) 8)
        → u ≡ (t && is_listed (numbers_at b (p + 1) (get_or b p 0)) (integer_of c)) → Its c r Enumerated
    unfolding size_by own_either segmented leaf_weight body_at decode if leaf_octets
    number_size c e f g =
        by_three (enumerated (natural (integer_of c))) refl (omega arith) (minimal c) (leb (length c) 8)
        (is_listed (numbers_at b (p + 1) (get_or b p 0)) (integer_of c)) (rw (g, f) at e)

    pub time_size : (c : List ℕ) {k : Kind} → (k ≡ UtcTime) ⊎ (k ≡ GeneralizedTime) → {q : TimeKind} → q ≡ time_kind (octet_of k)
        → {t : Bool} → t ≡ is_time q c → r ≡ then_some t 10 → Its c r k
    unfolding size_by own_either segmented leaf_weight body_at decode if leaf_octets time_octets time_kind
    time_size c (inl h) g f e = rw h (by_one (time Utc (time_of Utc c)) refl (omega arith) (is_time Utc c) (rw (f, g, h) at e))
    time_size c (inr h) g f e = rw h (by_one (time Generalized (time_of Generalized c)) refl (omega arith) (is_time Generalized c) (rw (f, g, h) at e))

    -- no simple kind is left
    pub other_size : (c : List ℕ) (k : Kind) → (k ≡ Boolean → ⊥) → (k ≡ Integer → ⊥) → (k ≡ BitString → ⊥) → (k ≡ OctetString → ⊥)
        → (k ≡ Null → ⊥) → (k ≡ Enumerated → ⊥) → (k ≡ UtcTime → ⊥) → (k ≡ GeneralizedTime → ⊥) → r ≡ None → Its c r k
    unfolding size_by own_either leaf_weight body_at if
    other_size c Boolean h₁ h₂ h₃ h₄ h₅ h₆ h₇ h₈ e = absurd (h₁ refl)
    other_size c Integer h₁ h₂ h₃ h₄ h₅ h₆ h₇ h₈ e = absurd (h₂ refl)
    other_size c BitString h₁ h₂ h₃ h₄ h₅ h₆ h₇ h₈ e = absurd (h₃ refl)
    other_size c OctetString h₁ h₂ h₃ h₄ h₅ h₆ h₇ h₈ e = absurd (h₄ refl)
    other_size c Null h₁ h₂ h₃ h₄ h₅ h₆ h₇ h₈ e = absurd (h₅ refl)
    other_size c Enumerated h₁ h₂ h₃ h₄ h₅ h₆ h₇ h₈ e = absurd (h₆ refl)
    other_size c UtcTime h₁ h₂ h₃ h₄ h₅ h₆ h₇ h₈ e = absurd (h₇ refl)
    other_size c GeneralizedTime h₁ h₂ h₃ h₄ h₅ h₆ h₇ h₈ e = absurd (h₈ refl)
    other_size c k h₁ h₂ h₃ h₄ h₅ h₆ h₇ h₈ e = (e, omega arith)

-- contents of no simple kind are wrong
module _ (b : List ℕ) (k p : ℕ) (c : List ℕ) where
  pub other_wrong : (k ≡ 1 → ⊥) → (k ≡ 2 → ⊥) → (k ≡ 3 → ⊥) → (k ≡ 4 → ⊥) → (k ≡ 5 → ⊥) → (k ≡ 10 → ⊥) → (k ≡ 23 → ⊥) → (k ≡ 24 → ⊥)
      → 0 ≡ leaf_weight (body_at b k p) c
  unfolding leaf_weight body_at
  other_wrong h₁ h₂ h₃ h₄ h₅ h₁₀ h₂₃ h₂₄ =
      rw (ne_eqb k 1 h₁, ne_eqb k 2 h₂, ne_eqb k 3 h₃, ne_eqb k 4 h₄, ne_eqb k 5 h₅, ne_eqb k 10 h₁₀, ne_eqb k 23 h₂₃, ne_eqb k 24 h₂₄) (
      test (eqb k 16) (λ e. rw e) λ e₁.
      test (eqb k 17) (λ e. rw (e₁, e)) λ e₂.
      test (eqb k 48) (λ e. rw (e₁, e₂, e)) λ e₃.
      test (eqb k 49) (λ e. rw (e₁, e₂, e₃, e)) λ e₄.
      rw (e₁, e₂, e₃, e₄))

listed_is : (ns : List ℕ) (z : ℤ) → lists_number ns z ≡ is_listed ns z
unfolding is_listed listed
listed_is ns (pos k) = refl
listed_is ns (negsuc k) = refl

-- the numbers of an ENUMERATED are all there
pub lists_all : {b : List ℕ} {e : Descriptor} {r : Record} → Describes b e r → e.kind ≡ Enumerated → (c : List ℕ) → (minimal c && leb (length c) 8) ≡ true
    → (z : ℤ) → z ≡ integer_in c → {s : Bool}
    → s ≡ (leb (e.own + 1 + 2 * get_or b e.own 0) (length b) && lists_number (numbers_at b (e.own + 1) (get_or b e.own 0)) z)
    → s ≡ is_listed (numbers_at b (e.own + 1) (get_or b e.own 0)) (integer_of c)
unfolding body_at if
lists_all {b} {e} {r} x q c h z i es =
    let ns = numbers_at b (e.own + 1) (get_or b e.own 0) in
    let y : r.body ≡ Plain (Numbers ns) = sym x.entered.body ∙ rw q refl in
    let j : z ≡ integer_of c = i ∙ rw (both (minimal c) (leb (length c) 8) h).1 refl in
    es ∙ rw ((entered_enumerated x.entered ns y).within, ← j) (listed_is ns z)

-- what is not in segments has the size of its contents, and a string in segments has none by itself
pub by_whole : (y : Body) (lead : ℕ) (c : List ℕ) → is_in_segments lead ≡ false → size_by y lead c ≡ leaf_weight y c
unfolding size_by if
by_whole y lead c z = rw (z, and_false (own_either y)) refl

pub by_parts : (b : List ℕ) (k p lead : ℕ) (c : List ℕ) → (k ≡ 3) ⊎ (k ≡ 4) → is_in_segments lead ≡ true → size_by (body_at b k p) lead c ≡ 0
unfolding size_by own_either segmented body_at if
by_parts b k p lead c (inl e) t = rw (e, t) refl
by_parts b k p lead c (inr e) t = rw (e, t) refl
