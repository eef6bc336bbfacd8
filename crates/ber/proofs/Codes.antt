-- Laws of the codes of identifiers: a code has the octets of its tag, and two identifiers have one code only if they are the same.
-- Assumes nothing.
use borrow.Author.Tests.{lt-ltb, le-ltb, ltb-true, ltb-false, eq-eqb, eqb-true, eqb-false}
use mathlib.Core.Bool.{Bool, true, false}
use mathlib.Core.List.{List, [], ◌∷◌, ◌++◌}
use mathlib.Core.Path.{◌≡◌, refl, sym, ap, ◌∙◌}
use native.Mathlib.Omega.{arith}
use Prim.Native.Nat.{ℕ, suc, ◌+◌, ◌*◌, ◌/◌, ◌%◌, ◌≤◌, ◌<◌, min}
use lib.Dec.{ltb, eqb}
use lib.ListN.{length, get_or}
use lib.Seq.{append_snoc}
use Rattle.octets.specs.Answer.{got}
use Rattle.octets.specs.Lists.{same}
use Rattle.octets.specs.Numbers.{Octets}
use Rattle.octets.proofs.Answer.{Holds, yields, refuses, if_holds, then_holds, map_holds, got_holds, refused≢got, got_value, run}
use Rattle.octets.proofs.Lists.{same_refl, same_true}
use Rattle.octets.proofs.Tests.{test}
use Rattle.ber.specs.Codes.{code, spelled, code_of, code_octets}
use Rattle.x690.specs.Identifier.{bit, leading, following, identifier}
use Rattle.x690.specs.Reading.{read_following, read_identifier}

-- the forms of a code, and of its octets
pub bit_small : (b : Bool) → bit b ≤ 1
bit_small true = omega arith
bit_small false = omega arith

module _ (c : ℕ) (b : Bool) (n : ℕ) where
  pub code_short : n < 31 → code c b n ≡ c * 64 + bit b * 32 + n
  unfolding code leading
  code_short h = simp (run, lt-ltb n 31 h)

  pub code_long : 31 ≤ n → code c b n ≡ c * 64 + bit b * 32 + 31 + 256 * n
  unfolding code leading
  code_long h = simp (run, le-ltb n 31 h)

  identifier_short : n < 31 → identifier c b n ≡ (c * 64 + bit b * 32 + n) ∷ []
  unfolding identifier leading
  identifier_short h = simp (run, lt-ltb n 31 h)

  identifier_long : 31 ≤ n → identifier c b n ≡ (c * 64 + bit b * 32 + 31) ∷ following n
  unfolding identifier leading
  identifier_long h = simp (run, le-ltb n 31 h)

module _ (n : ℕ) where
  following_one : n < 128 → following n ≡ n ∷ []
  unfolding following
  following_one h = simp (run, lt-ltb n 128 h)

  following_two : 128 ≤ n → n < 16384 → following n ≡ (128 + n / 128) ∷ n % 128 ∷ []
  unfolding following
  following_two h k = simp (run, le-ltb n 128 h, lt-ltb n 16384 k)

  following_three : 16384 ≤ n → following n ≡ (128 + n / 16384) ∷ (128 + n / 128 % 128) ∷ n % 128 ∷ []
  unfolding following
  following_three h = simp (run, le-ltb n 128 (omega arith), le-ltb n 16384 h)

module _ (c : ℕ) where
  pub octets_one : c < 256 → code_octets c ≡ c % 256 ∷ []
  unfolding code_octets
  octets_one h = let e : c % 256 ≡ c = omega arith in simp (run, lt-ltb c 256 h, e)

  pub octets_two : 256 ≤ c → c < 32768 → code_octets c ≡ c % 256 ∷ c / 256 ∷ []
  unfolding code_octets
  octets_two h k = simp (run, le-ltb c 256 h, lt-ltb c 32768 k)

  pub octets_three : 32768 ≤ c → c < 4194304 → code_octets c ≡ c % 256 ∷ (128 + c / 32768) ∷ c / 256 % 128 ∷ []
  unfolding code_octets
  octets_three h k = simp (run, le-ltb c 256 (omega arith), le-ltb c 32768 h, lt-ltb c 4194304 k)

  pub octets_four : 4194304 ≤ c → code_octets c ≡ c % 256 ∷ (128 + c / 4194304 % 128) ∷ (128 + c / 32768 % 128) ∷ c / 256 % 128 ∷ []
  unfolding code_octets
  octets_four h = simp (run, le-ltb c 256 (omega arith), le-ltb c 32768 (omega arith), le-ltb c 4194304 h)

-- l stands for the leading octet of a long form
module _ (l n : ℕ) (octet : l < 256) where
  low_octet : (l + 256 * n) % 256 ≡ l
  low_octet = omega arith

  upper : (l + 256 * n) / 256 ≡ n
  upper = omega arith

  upper_more : (l + 256 * n) / 32768 ≡ n / 128
  upper_more = omega arith

  upper_most : (l + 256 * n) / 4194304 ≡ n / 16384
  upper_most = omega arith

  octets_long : 31 ≤ n → n < 65536 → code_octets (l + 256 * n) ≡ l ∷ following n
  octets_long h k =
      test (ltb n 128)
      (λ e. let g = ltb-true n 128 e in rw (octets_two (l + 256 * n) (omega arith) (omega arith), following_one n g, low_octet, upper) refl) λ e.
      test (ltb n 16384)
      (λ f. let g = ltb-true n 16384 f in
      let p = ltb-false n 128 e in
      rw (octets_three (l + 256 * n) (omega arith) (omega arith), following_two n p g, low_octet, upper_more, upper) refl) λ f.
      let g = ltb-false n 16384 f in
      let q : n / 16384 % 128 ≡ n / 16384 = omega arith in
      rw (octets_four (l + 256 * n) (omega arith), following_three n g, low_octet, upper_most, upper_more, upper, q) refl

-- the octets of a tag's code are the tag's
pub code_octets_lem : (c : ℕ) (b : Bool) (n : ℕ) → c < 4 → n < 65536 → code_octets (code c b n) ≡ identifier c b n
code_octets_lem c b n h k =
    let s = bit_small b in
    test (ltb n 31)
    (λ e. let g = ltb-true n 31 e in
    let q : (c * 64 + bit b * 32 + n) % 256 ≡ c * 64 + bit b * 32 + n = omega arith in
    rw (code_short c b n g, octets_one (c * 64 + bit b * 32 + n) (omega arith), identifier_short c b n g, q) refl) λ e.
    let g = ltb-false n 31 e in
    rw (code_long c b n g, identifier_long c b n g) (octets_long (c * 64 + bit b * 32 + 31) n (omega arith) g k)

-- what following octets spell
spelled_next : (n d r : ℕ) (ds : List ℕ) → min 65536 (n * 128 + d % 128) ≡ r → spelled n (d ∷ ds) ≡ spelled r ds
unfolding spelled
spelled_next n d r ds e = ap (λ (x : ℕ). spelled x ds) e

spelled_end : (n : ℕ) → spelled n [] ≡ n
unfolding spelled
spelled_end n = refl

spelled_one : (n d r : ℕ) → min 65536 (n * 128 + d % 128) ≡ r → spelled n (d ∷ []) ≡ r
spelled_one n d r e = spelled_next n d r [] e ∙ spelled_end r

spelled_full : (ds : List ℕ) → spelled 65536 ds ≡ 65536
unfolding spelled
spelled_full [] = refl
spelled_full (d ∷ ds) = let q : min 65536 (65536 * 128 + d % 128) ≡ 65536 = omega arith in rw q (spelled_full ds)

spelled_most : (n : ℕ) (ds : List ℕ) → n ≤ 65536 → spelled n ds ≤ 65536
unfolding spelled
spelled_most n [] h = h
spelled_most n (d ∷ ds) h = spelled_most (min 65536 (n * 128 + d % 128)) ds (omega arith)

spelled_some : (n : ℕ) (ds : List ℕ) → 0 < n → 0 < spelled n ds
unfolding spelled
spelled_some n [] h = h
spelled_some n (d ∷ ds) h = spelled_some (min 65536 (n * 128 + d % 128)) ds (omega arith)

spelled_following : (n : ℕ) → n < 65536 → spelled 0 (following n) ≡ n
spelled_following n h =
    test (ltb n 128) (λ e. let g = ltb-true n 128 e in rw (following_one n g) (spelled_one 0 n n (omega arith))) λ e.
    let g = ltb-false n 128 e in
    test (ltb n 16384)
    (λ f.
    let k = ltb-true n 16384 f in
    rw (following_two n g k)
    (spelled_next 0 (128 + n / 128) (n / 128) (n % 128 ∷ []) (omega arith) ∙ spelled_one (n / 128) (n % 128) n (omega arith))) λ f.
    let k = ltb-false n 16384 f in
    rw (following_three n k)
    (spelled_next 0 (128 + n / 16384) (n / 16384) ((128 + n / 128 % 128) ∷ n % 128 ∷ []) (omega arith)
    ∙ spelled_next (n / 16384) (128 + n / 128 % 128) (n / 128) (n % 128 ∷ []) (omega arith)
    ∙ spelled_one (n / 128) (n % 128) n (omega arith))

-- the code of identifier octets
code_one : (x : ℕ) → code_of (x ∷ []) ≡ x
unfolding code_of
code_one x = refl

code_more : (x : ℕ) (ds : List ℕ) → 0 < length ds → code_of (x ∷ ds) ≡ x + 256 * spelled 0 ds
unfolding code_of
code_more x [] h = absurd (omega arith)
code_more x (d ∷ ds) h = refl

following_some : (n : ℕ) → 0 < length (following n)
following_some n =
    test (ltb n 128) (λ e. rw (following_one n (ltb-true n 128 e)) (omega arith)) λ e.
    test (ltb n 16384) (λ f. rw (following_two n (ltb-false n 128 e) (ltb-true n 16384 f)) (omega arith)) λ f.
    rw (following_three n (ltb-false n 16384 f)) (omega arith)

-- the code of a tag's octets is the tag's
pub code_of_identifier : (c : ℕ) (b : Bool) (n : ℕ) → n < 65536 → code_of (identifier c b n) ≡ code c b n
code_of_identifier c b n h =
    test (ltb n 31) (λ e. let g = ltb-true n 31 e in rw (identifier_short c b n g, code_short c b n g) (code_one (c * 64 + bit b * 32 + n))) λ e.
    let g = ltb-false n 31 e in
    rw (identifier_long c b n g, code_long c b n g, code_more (c * 64 + bit b * 32 + 31) (following n) (following_some n), spelled_following n h) refl

-- the octets that follow a leading octet
data Digits : List ℕ → Type 0 where
  final : (d : ℕ) → d < 128 → Digits (d ∷ [])
  more : (d : ℕ) {ds : List ℕ} → 128 ≤ d → d < 256 → Digits ds → Digits (d ∷ ds)

digits_some : {ds : List ℕ} → Digits ds → 0 < length ds
digits_some (final d h) = omega arith
digits_some (more d h k g) = omega arith

following_digits : (l : ℕ) (hand s : List ℕ) → Octets s → Holds (λ ds w. (us : List ℕ) × (ds ≡ hand ++ us) × Digits us) (read_following l hand s)
unfolding read_following
following_digits l hand [] o = refuses
following_digits l hand (d ∷ s) o =
    if_holds _ (λ e. yields (d ∷ [], refl, final d (ltb-true d 128 e)))
    λ e _. map_holds (following_digits l (hand ++ (d ∷ [])) s (λ i. o (suc i)))
    λ ds w (us, f, g). (d ∷ us, f ∙ append_snoc hand d us, more d (ltb-false d 128 e) (o 0) g)

-- identifier octets that can be read, and begin with an octet
data Form (x : ℕ) : List ℕ → Type 0 where
  short : x < 256 → x % 32 < 31 → Form x (x ∷ [])
  long : {ds : List ℕ} → x < 256 → 31 ≤ x % 32 → Digits ds → (get_or ds 0 0 ≡ 128 → ⊥) → 31 ≤ get_or ds 0 0 → Form x (x ∷ ds)

identifier_form : (s : List ℕ) → Octets s → Holds (λ i w. Form (get_or s 0 0) i) (read_identifier s)
unfolding read_identifier
identifier_form [] o = refuses
identifier_form (b ∷ s) o =
    if_holds _ (λ e. yields (short (o 0) (ltb-true (b % 32) 31 e)))
    λ e _. then_holds (following_digits (suc (length s)) [] s (λ i. o (suc i))) λ ds w (us, f, g).
    if_holds _ (λ h. refuses) λ h _.
    if_holds _ (λ k. refuses) λ k _.
    yields (long (o 0) (ltb-false (b % 32) 31 e) (rw f g) (eqb-false (get_or ds 0 0) 128 h) (ltb-false (get_or ds 0 0) 31 k))

-- digits spell one number only
digits_over : (x : ℕ) (ds : List ℕ) → 16384 ≤ x → Digits ds → spelled x ds ≡ 65536
digits_over x _ h (final d g) = spelled_one x d 65536 (omega arith)
digits_over x _ h (more d {ds} g k r) = spelled_next x d 65536 ds (omega arith) ∙ spelled_full ds

digits_following : (ds : List ℕ) → Digits ds → (get_or ds 0 0 ≡ 128 → ⊥) → (n : ℕ) → spelled 0 ds ≡ n → n < 65536 → ds ≡ following n
digits_following _ (final d h) z n e l =
    let q : n ≡ d = sym e ∙ spelled_one 0 d d (omega arith) in
    rw q (sym (following_one d h))
digits_following _ (more a h k (final d g)) z n e l =
    let x = spelled_next 0 a (a % 128) (d ∷ []) (omega arith) ∙ spelled_one (a % 128) d (a % 128 * 128 + d) (omega arith) in
    let q : n ≡ a % 128 * 128 + d = sym e ∙ x in
    let p : 128 + n / 128 ≡ a = omega arith in
    let r : n % 128 ≡ d = omega arith in
    sym (following_two n (omega arith) (omega arith) ∙ rw (p, r) refl)
digits_following _ (more a h k (more b u v (final d g))) z n e l =
    let x = a % 128 * 128 + b % 128 in
    let s = spelled_next 0 a (a % 128) (b ∷ d ∷ []) (omega arith) ∙ spelled_next (a % 128) b x (d ∷ []) (omega arith) in
    let q : n ≡ min 65536 (x * 128 + d % 128) = sym e ∙ s ∙ spelled_one x d (min 65536 (x * 128 + d % 128)) refl in
    let w : n ≡ x * 128 + d = omega arith in
    let p : 128 + n / 16384 ≡ a = omega arith in
    let y : 128 + n / 128 % 128 ≡ b = omega arith in
    let r : n % 128 ≡ d = omega arith in
    sym (following_three n (omega arith) ∙ rw (p, y, r) refl)
digits_following _ (more a h k (more b u v (more c {ds} f g r))) z n e l =
    let x = a % 128 * 128 + b % 128 in
    let s = spelled_next 0 a (a % 128) (b ∷ c ∷ ds) (omega arith) ∙ spelled_next (a % 128) b x (c ∷ ds) (omega arith) in
    let t = spelled_next x c (min 65536 (x * 128 + c % 128)) ds refl in
    let y = digits_over (min 65536 (x * 128 + c % 128)) ds (omega arith) r in
    let q : n ≡ 65536 = sym e ∙ s ∙ t ∙ y in
    absurd (omega arith)

digits_number : (ds : List ℕ) → Digits ds → (get_or ds 0 0 ≡ 128 → ⊥) → 31 ≤ get_or ds 0 0 → 0 < spelled 0 ds
digits_number _ (final d h) z k = rw (spelled_one 0 d d (omega arith)) (omega arith)
digits_number _ (more d {ds} h g r) z k = rw (spelled_next 0 d (d % 128) ds (omega arith)) (spelled_some (d % 128) ds (omega arith))

form_most : {x : ℕ} {i : List ℕ} → Form x i → code_of i < 16777472
form_most {x} (short h k) = rw (code_one x) (omega arith)
form_most {x} (long {ds} h k g z l) = let q = spelled_most 0 ds (omega arith) in rw (code_more x ds (digits_some g)) (omega arith)

form_first : {x : ℕ} {i : List ℕ} → Form x i → code_of i < 256 → i ≡ x ∷ []
form_first (short h k) e = refl
form_first {x} (long {ds} h k g z l) e = let q = digits_number ds g z l in let w = rw (code_more x ds (digits_some g)) at e in absurd (omega arith)

form_is : {x : ℕ} {i : List ℕ} → Form x i → (c : ℕ) (b : Bool) (n : ℕ) → c < 4 → n < 65536 → code_of i ≡ code c b n → i ≡ identifier c b n
form_is {x} (short h k) c b n m l e =
    let s = bit_small b in
    let f = sym (code_one x) ∙ e in
    test (ltb n 31)
    (λ t. let g = ltb-true n 31 t in rw (identifier_short c b n g, ← code_short c b n g, ← f) refl) λ t.
    let g = ltb-false n 31 t in
    let w = f ∙ code_long c b n g in
    absurd (omega arith)
form_is {x} (long {ds} h k g z o) c b n m l e =
    let s = bit_small b in
    let f = sym (code_more x ds (digits_some g)) ∙ e in
    test (ltb n 31)
    (λ t. let q = ltb-true n 31 t in let w = f ∙ code_short c b n q in absurd (omega arith)) λ t.
    let q = ltb-false n 31 t in
    let w = f ∙ code_long c b n q in
    let y : spelled 0 ds ≡ n = omega arith in
    let v : x ≡ c * 64 + bit b * 32 + 31 = omega arith in
    rw (identifier_long c b n q, ← v, ← digits_following ds g z n y l) refl

agree : (t u : Bool) → (t ≡ true → u ≡ true) → (u ≡ true → t ≡ true) → t ≡ u
agree true u f g = sym (f refl)
agree false true f g = g refl
agree false false f g = refl

-- identifier octets that are read from octets
module _ (s i r : List ℕ) (o : Octets s) (e : read_identifier s ≡ got i r) where
  the_form : Form (get_or s 0 0) i
  the_form = got_holds (identifier_form s o) e

  pub read_code_small : code_of i < 16777472
  read_code_small = form_most the_form

  -- a code of one octet is that octet, and the identifier is no other
  pub read_code_first : code_of i < 256 → i ≡ get_or s 0 0 ∷ []
  read_code_first h = form_first the_form h

  module _ (c : ℕ) (b : Bool) (n : ℕ) (few : c < 4) (low : n < 65536) where
    pub code_same : same i (identifier c b n) ≡ eqb (code_of i) (code c b n)
    code_same =
        agree (same i (identifier c b n)) (eqb (code_of i) (code c b n))
        (λ t. eq-eqb (code_of i) (code c b n) (ap code_of (same_true i (identifier c b n) t) ∙ code_of_identifier c b n low))
        λ t. rw (form_is the_form c b n few low (eqb-true (code_of i) (code c b n) t)) (same_refl (identifier c b n))

    pub code_awaited : same (identifier c b n) i ≡ eqb (code_of i) (code c b n)
    code_awaited =
        agree (same (identifier c b n) i) (eqb (code_of i) (code c b n))
        (λ t. eq-eqb (code_of i) (code c b n) (ap code_of (sym (same_true (identifier c b n) i t)) ∙ code_of_identifier c b n low))
        λ t. rw (form_is the_form c b n few low (eqb-true (code_of i) (code c b n) t)) (same_refl (identifier c b n))

-- a first octet that leaves no long form
pub read_short : (s i r : List ℕ) → read_identifier s ≡ got i r → get_or s 0 0 % 32 < 31 → i ≡ get_or s 0 0 ∷ []
unfolding read_identifier
read_short [] i r e h = refused≢got e
read_short (b ∷ s) i r e h = sym (got_value (simp (run, lt-ltb (b % 32) 31 h) at e))

pub read_code_short : (s i r : List ℕ) → read_identifier s ≡ got i r → get_or s 0 0 % 32 < 31 → code_of i ≡ get_or s 0 0
read_code_short s i r e h = rw (read_short s i r e h) (code_one (get_or s 0 0))

-- for the code that reckons codes and puts their octets
pub ruleset codes = (code_short, code_long, bit_small)

pub ruleset octets = (octets_one, octets_two, octets_three, octets_four)
