-- Laws of identifier octets: what is written is read, what is read stood there, a tag has one form.
-- Assumes nothing.
use borrow.Author.Tests.{ltb-true, ltb-false, lt-ltb, le-ltb, ne_eqb}
use mathlib.Core.Bool.{Bool, true, false}
use mathlib.Core.List.{List, [], ◌∷◌, ◌++◌}
use mathlib.Core.Path.{◌≡◌, refl, sym, ap, ◌∙◌}
use native.Mathlib.Omega.{arith}
use Prim.Native.Nat.{ℕ, zero, suc, ◌+◌, ◌-◌, ◌*◌, ◌/◌, ◌%◌, ◌≤◌, ◌<◌}
use lib.Dec.{ltb, eqb}
use lib.ListN.{length, get_or}
use lib.Seq.{append_snoc}
use Rattle.octets.specs.Answer.{got, if}
use Rattle.octets.proofs.Answer.{Holds, yields, refuses, if_holds, then_holds, map_holds, if_cases, run}
use Rattle.x690.specs.Identifier.{bit, leading, following, identifier}
use Rattle.x690.specs.Reading.{read_following, read_identifier}

-- 8.1.2.4: the last number in one octet, and the next
number_30 : identifier 2 false 30 ≡ 0x9E ∷ []
unfolding if leading identifier
number_30 = refl

number_31 : identifier 2 false 31 ≡ 0x9F ∷ 0x1F ∷ []
unfolding if leading following identifier
number_31 = refl

following_sound : (l : ℕ) (ds s : List ℕ) → Holds (λ xs r. ds ++ s ≡ xs ++ r) (read_following l ds s)
unfolding read_following
following_sound l ds [] = refuses
following_sound l ds (d ∷ s) =
    if_holds _ (λ e. yields (sym (append_snoc ds d s))) λ e _.
    map_holds (following_sound l (ds ++ (d ∷ [])) s) (λ xs r h. sym (append_snoc ds d s) ∙ h)

-- what is read stood there
pub identifier_sound : (s : List ℕ) → Holds (λ i r. s ≡ i ++ r) (read_identifier s)
unfolding read_identifier
identifier_sound [] = refuses
identifier_sound (b ∷ s) =
    if_holds _ (λ e. yields refl) λ e _.
    then_holds (following_sound (suc (length s)) [] s) λ ds s₁ h.
    if_holds _ (λ f. refuses) λ f _.
    if_holds _ (λ f. refuses) λ f _.
    yields (ap (λ (x : List ℕ). b ∷ x) h)

-- it has an octet
pub identifier_some : (s : List ℕ) → Holds (λ i r. 0 < length i) (read_identifier s)
unfolding read_identifier
identifier_some [] = refuses
identifier_some (b ∷ s) =
    if_holds _ (λ e. yields (omega arith)) λ e _.
    then_holds (following_sound (suc (length s)) [] s) λ ds s₁ h.
    if_holds _ (λ f. refuses) λ f _.
    if_holds _ (λ f. refuses) λ f _.
    yields (omega arith)

-- what follows a leading octet is read, and is no forbidden form
record Followed (n : ℕ) (s : List ℕ) (l : ℕ) (ds : List ℕ) : Type 0 where
  is_read : read_following l [] (ds ++ s) ≡ got ds s
  no_zeros : eqb (get_or ds 0 0) 128 ≡ false
  long_enough : ltb (get_or ds 0 0) 31 ≡ false

one_follows : (n : ℕ) (s : List ℕ) (l : ℕ) → 31 ≤ n → n < 128 → Followed n s l (n ∷ [])
unfolding read_following
one_follows n s l h k =
    record { is_read = simp (run, lt-ltb n 128 k); no_zeros = ne_eqb n 128 (λ e. omega arith); long_enough = le-ltb n 31 h }

two_follow : (n x y : ℕ) (s : List ℕ) (l : ℕ) → 128 < x → y < 128 → Followed n s l (x ∷ y ∷ [])
unfolding read_following
two_follow n x y s l h k =
    record { is_read = simp (run, le-ltb x 128 (omega arith), lt-ltb y 128 k); no_zeros = ne_eqb x 128 (λ e. omega arith); long_enough = le-ltb x 31 (omega arith) }

three_follow : (n x y z : ℕ) (s : List ℕ) (l : ℕ) → 128 < x → 128 ≤ y → z < 128 → Followed n s l (x ∷ y ∷ z ∷ [])
unfolding read_following
three_follow n x y z s l h i k =
    record { is_read = simp (run, le-ltb x 128 (omega arith), le-ltb y 128 i, lt-ltb z 128 k); no_zeros = ne_eqb x 128 (λ e. omega arith); long_enough = le-ltb x 31 (omega arith) }

followed : (n : ℕ) (s : List ℕ) (l : ℕ) → 31 ≤ n → Followed n s l (following n)
unfolding following
followed n s l h =
    if_cases (Followed n s l) (ltb n 128) _ _ (λ e. one_follows n s l h (ltb-true n 128 e)) λ e.
    let big : 128 ≤ n = ltb-false n 128 e in
    if_cases (Followed n s l) (ltb n 16384) _ _
    (λ f. two_follow n (128 + n / 128) (n % 128) s l (omega arith) (omega arith))
    (λ f. let huge : 16384 ≤ n = ltb-false n 16384 f in three_follow n (128 + n / 16384) (128 + n / 128 % 128) (n % 128) s l (omega arith) (omega arith) (omega arith))

short_read : (c : ℕ) (b : Bool) (n : ℕ) (s : List ℕ) → n < 31 → read_identifier (leading c b n ∷ s) ≡ got (leading c b n ∷ []) s
unfolding read_identifier leading
short_read c b n s h =
    let k : (c * 64 + bit b * 32 + n) % 32 < 31 = omega arith in
    simp (run, lt-ltb ((c * 64 + bit b * 32 + n) % 32) 31 k)

long_read : (c : ℕ) (b : Bool) (n : ℕ) (ds s : List ℕ) → Followed n s (suc (length (ds ++ s))) ds → read_identifier (leading c b 31 ∷ (ds ++ s)) ≡ got (leading c b 31 ∷ ds) s
unfolding read_identifier leading
long_read c b n ds s f =
    let k : 31 ≤ (c * 64 + bit b * 32 + 31) % 32 = omega arith in
    simp (run, le-ltb ((c * 64 + bit b * 32 + 31) % 32) 31 k, f.is_read, f.no_zeros, f.long_enough)

-- what is written is read
pub identifier_complete : (c : ℕ) (b : Bool) (n : ℕ) (s : List ℕ) → read_identifier (identifier c b n ++ s) ≡ got (identifier c b n) s
unfolding identifier
identifier_complete c b n s =
    if_cases (λ i. read_identifier (i ++ s) ≡ got i s) (ltb n 31) _ _ (λ e. short_read c b n s (ltb-true n 31 e))
    (λ e. long_read c b n (following n) s (followed n s _ (ltb-false n 31 e)))

-- the class and the number that identifier octets name
abbrev class_in : List ℕ → ℕ
class_in [] = 0
class_in (b ∷ s) = b / 64

abbrev spell : ℕ → List ℕ → ℕ
spell n [] = n
spell n (d ∷ []) = n * 128 + d
spell n (d ∷ e ∷ s) = spell (n * 128 + (d - 128)) (e ∷ s)

abbrev number_in : List ℕ → ℕ
number_in [] = 0
number_in (b ∷ []) = b % 32
number_in (b ∷ d ∷ s) = spell 0 (d ∷ s)

leading_class : (c : ℕ) (b : Bool) (n : ℕ) → n < 32 → leading c b n / 64 ≡ c
unfolding leading
leading_class c true n h = omega arith
leading_class c false n h = omega arith

leading_number : (c : ℕ) (b : Bool) (n : ℕ) → n < 31 → leading c b n % 32 ≡ n
unfolding leading
leading_number c true n h = omega arith
leading_number c false n h = omega arith

class_in_lem : (c : ℕ) (b : Bool) (n : ℕ) → class_in (identifier c b n) ≡ c
unfolding identifier
class_in_lem c b n =
    if_cases (λ i. class_in i ≡ c) (ltb n 31) _ _ (λ e. let h : n < 31 = ltb-true n 31 e in leading_class c b n (omega arith)) (λ e. leading_class c b 31 (omega arith))

number_in_lem : (c : ℕ) (b : Bool) (n : ℕ) → number_in (identifier c b n) ≡ n
unfolding identifier following
number_in_lem c b n =
    if_cases (λ i. number_in i ≡ n) (ltb n 31) _ _ (λ e. leading_number c b n (ltb-true n 31 e)) λ e.
    if_cases (λ (i : List ℕ). number_in (leading c b 31 ∷ i) ≡ n) (ltb n 128) _ _ (λ f. omega arith) λ f.
    if_cases (λ (i : List ℕ). number_in (leading c b 31 ∷ i) ≡ n) (ltb n 16384) _ _ (λ g. omega arith) (λ g. omega arith)

-- a tag has one form: other tags have other identifier octets, whatever their bit
pub identifier_tag : (c : ℕ) (a : Bool) (n d : ℕ) (b : Bool) (k : ℕ) → identifier c a n ≡ identifier d b k → (c ≡ d) × (n ≡ k)
identifier_tag c a n d b k e =
    (sym (class_in_lem c a n) ∙ ap class_in e ∙ class_in_lem d b k, sym (number_in_lem c a n) ∙ ap number_in e ∙ number_in_lem d b k)

-- the first of the identifier octets; only UNIVERSAL 0, primitive, begins with 00
pub record Begun (m : List ℕ) : Type 0 where
  pub head : ℕ
  pub rest : List ℕ
  pub is : m ≡ head ∷ rest
  pub not_zero : 0 < head

leading_some : (c : ℕ) (b : Bool) (n : ℕ) → (c ≡ 0 → n ≡ 0 → ⊥) → 0 < leading c b n
unfolding leading
leading_some zero b zero h = absurd (h refl refl)
leading_some zero b (suc n) h = omega arith
leading_some (suc c) b n h = omega arith

pub identifier_begun : (c : ℕ) (b : Bool) (n : ℕ) → (c ≡ 0 → n ≡ 0 → ⊥) → Begun (identifier c b n)
unfolding identifier leading
identifier_begun c b n h =
    if_cases Begun (ltb n 31) _ _ (λ e. record { head = leading c b n; rest = []; is = refl; not_zero = leading_some c b n h })
    (λ e. record { head = leading c b 31; rest = following n; is = refl; not_zero = omega arith })
