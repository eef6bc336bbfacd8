-- A leaf by its kind: where its own part ends, its contents octets, and the octets of v that they come from.
-- Assumes nothing.
use mathlib.Core.Bool.{Bool, true, false, not, true≢false}
use mathlib.Core.List.{List, [], ◌∷◌}
use mathlib.Core.Path.{◌≡◌, refl, sym, ap, ◌∙◌}
use Prim.Native.Nat.{ℕ, suc, ◌+◌, ◌-◌, ◌*◌, ◌/◌, ◌%◌, ◌^◌, ◌≤◌, ◌<◌}
use native.Mathlib.Nat.{div-add-mod'}
use native.Mathlib.Omega.{arith}
use borrow.Author.Tests.{lt-ltb, le-ltb, le-leb, lt-leb, eq-eqb, ne_eqb, eqb-true, eqb-false, ltb-true, ltb-false}
use lib.Dec.{ltb, leb, eqb}
use lib.IntN.{ℤ, pos}
use lib.ListN.{length, get_or, take, drop, set, length-drop}
use lib.Seq.{sets, length-take-le, get_or-take}
use Rattle.std.specs.Prelude.{Option, Some, None}
use Rattle.octets.specs.Tests.{if}
use Rattle.octets.proofs.Tests.{test, at}
use Rattle.octets.specs.Numbers.{two}
use Rattle.octets.specs.Buffers.{filled}
use Rattle.x690.specs.Integer.{integer_of, fewest_of, eight}
use Rattle.x690.specs.Time.{time_digits, time_size}
use Rattle.x690.proofs.Times.{length_time}
use Rattle.dates.specs.declared.DateTime.{DateTime}
use Rattle.dates.specs.declared.TimeKind.{TimeKind}
use Rattle.dates.specs.declared.TimeKind.TheVariants.{Utc, Generalized}
use Rattle.dates.specs.Calendar.{in_range}
use Rattle.dates.specs.Own.{time_at}
use Rattle.kinds.specs.declared.Kind.{Kind}
use Rattle.kinds.specs.declared.Kind.TheVariants.{Boolean, Integer, BitString, OctetString, Null, Enumerated}
use Rattle.kinds.specs.Kinds.{octet_of}
use Rattle.table.specs.Syntax.{constructed}
use Rattle.table.specs.Reading.{body_at}
use Rattle.table.specs.Fields.{constructed_of, time_kind}
use Rattle.coding.specs.Value.{time, time_number}
use Rattle.coding.specs.Form.{encode, truth}
use Rattle.coding.specs.Judging.{octets_for, spare_in}
use Rattle.writer.specs.Nodes.{fixed_end, boolean_end, string_end, bits_end, time_end, clear_at, own_end, leaf_of}
use Rattle.writer.specs.Leaves.{MeasuresSome}
use Rattle.writer.specs.declared.contents.Extent.{Extent}
use Rattle.writer.proofs.Nodes.{fixed_is, no_built}
use Rattle.writer.proofs.Reading.{time_at_lem}

none : {X : Type 0} → 0 < 0 → X
none h = absurd (omega arith)

-- n octets from p on
part_length : (v : List ℕ) (p n : ℕ) → p + n ≤ length v → length (take n (drop p v)) ≡ n
part_length v p n h = length-take-le n (drop p v) (let l = length-drop p v in omega arith)

-- the bits behind the last one
clear_test : (a m x : ℕ) → a + m ≡ x → eqb m 0 ≡ eqb a x
clear_test a m x e =
    test (eqb m 0) (λ t. let z = eqb-true m 0 t in rw (t, eq-eqb a x (omega arith)) refl) λ t.
    let z = eqb-false m 0 t in rw (t, ne_eqb a x (λ y. z (omega arith))) refl

module _ (v : List ℕ) (p n : ℕ) where
  pub clear_whole : n % 8 ≡ 0 → true ≡ clear_at v p n
  unfolding clear_at
  clear_whole h =
      test (eqb n 0) (λ t. rw t refl) λ t.
      let s : spare_in n ≡ 0 = omega arith in
      let x = get_or v (p + octets_for n - 1) 0 in
      let y : x / 1 * 1 ≡ x = omega arith in
      rw (t, s) (sym (eq-eqb _ _ y))

  pub clear_part : (e u : ℕ) → (n % 8 ≡ 0 → ⊥) → e ≡ p + (n + 7) / 8 → u ≡ 2 ^ ((8 - n % 8) % 8) → eqb (get_or v (e - 1) 0 % u) 0 ≡ clear_at v p n
  unfolding clear_at
  clear_part e u h ee eu =
      let z : n ≡ 0 → ⊥ = λ q. h (omega arith) in
      let m : n % 8 < 8 = omega arith in
      let s : (8 - n % 8) % 8 ≡ spare_in n = omega (arith, ne_mod) in
      rw (ne_eqb n 0 z, ← s, ← eu, ← ee) (clear_test (get_or v (e - 1) 0 / u * u) (get_or v (e - 1) 0 % u) (get_or v (e - 1) 0) (div-add-mod' (get_or v (e - 1) 0) u))
    where
      ne_mod : 0 < n % 8
      ne_mod = test (ltb 0 (n % 8)) (λ t. ltb-true 0 (n % 8) t) λ t. absurd (h (let k : n % 8 ≤ 0 = ltb-false 0 (n % 8) t in omega arith))

-- a time by its kind's octet
own_time_lem : (k : TimeKind) (v : List ℕ) (p : ℕ) → own_end (time_number k) v p ≡ time_end k v p
unfolding own_end
own_time_lem Utc v p = refl
own_time_lem Generalized v p = refl

leaf_time : (k : TimeKind) (v : List ℕ) (p : ℕ) → leaf_of (time_number k) v p ≡ time k (time_at v p)
unfolding leaf_of
leaf_time Utc v p = refl
leaf_time Generalized v p = refl

time_few : (k : TimeKind) → time_size k < 65536
unfolding time_size
time_few Utc = omega arith
time_few Generalized = omega arith

time_in_lem : (k : TimeKind) (v : List ℕ) (p : ℕ) → 0 < time_end k v p → (time_end k v p ≡ p + 7) × (p + 7 ≤ length v) × (in_range k (time_at v p) ≡ true)
unfolding time_end
time_in_lem k v p h =
    test (ltb (length v) (p + 7)) (λ t. none (rw t at h)) λ t.
    test (in_range k (time_at v p)) (λ s. (rw (t, s) refl, ltb-false _ _ t, s)) λ s. none (rw (t, s) at h)

-- what is measured where the octets are there, or are not
abbrev Until : List ℕ → ℕ → Option ℕ
Until v e = if (ltb (length v) e) None λ _. Some e

abbrev Absent : List ℕ → ℕ → Type 0
Absent v e = ◌≡◌ {A = Option ℕ} None (Until v e)

abbrev Present : List ℕ → ℕ → ℕ → Type 0
Present v e x = ◌≡◌ {A = Option ℕ} (Some x) (Until v e)

until_none : (v : List ℕ) (e : ℕ) → Absent v e → length v < e
until_none v e h = test (ltb (length v) e) (λ t. ltb-true _ _ t) λ t. let g = rw t at h in cc

until_some : (v : List ℕ) (e : ℕ) {x : ℕ} → Present v e x → (x ≡ e) × (e ≤ length v)
until_some v e h = test (ltb (length v) e) (λ t. let g = rw t at h in cc) λ t. let g = rw t at h in (cc, ltb-false _ _ t)

-- what is told where the own part is not shaped, and where it is
pub unshaped : (k : ℕ) (v : List ℕ) (p : ℕ) {r : Option Extent} → r ≡ None → own_end k v p ≡ 0 → MeasuresSome k v p r
unshaped k v p e h = rw e h

shaped : {k : ℕ} {v : List ℕ} {p e n : ℕ} → e ≡ own_end k v p → (0 < p → 0 < e) → n ≡ length (encode (leaf_of k v p)) → n < 65536
    → MeasuresSome k v p (Some (record { end = e; size = n }))
shaped e h n s = (record { ends = e; sized = λ _. n; small = s }, λ g. rw (← e) (h g))

module _ (v : List ℕ) (p : ℕ) where
  pub boolean_short : Absent v (p + 1) → own_end 1 v p ≡ 0
  unfolding own_end boolean_end
  boolean_short h = rw (lt-ltb (length v) (p + 1) (until_none _ _ h)) refl

  module _ {e : ℕ} (h : Present v (p + 1) e) where
    pub boolean_other : 2 ≤ get_or v p 0 → own_end 1 v p ≡ 0
    unfolding own_end boolean_end
    boolean_other g = rw (le-ltb (length v) (p + 1) (until_some _ _ h).1, le-leb 2 (get_or v p 0) g) refl

    pub boolean_measured : get_or v p 0 < 2 → MeasuresSome 1 v p (Some (record { end = e; size = 1 }))
    unfolding own_end boolean_end leaf_of encode
    boolean_measured g =
        let w = until_some _ _ h in
        shaped (w.0 ∙ rw (le-ltb (length v) (p + 1) w.1, lt-leb 2 (get_or v p 0) g) refl) (λ _. omega arith) refl (omega arith)

  fixed_short : (e : ℕ) → length v < e → fixed_end v e ≡ 0
  unfolding fixed_end
  fixed_short e h = rw (lt-ltb (length v) e h) refl

  fixed_long : (e : ℕ) → e ≤ length v → fixed_end v e ≡ e
  unfolding fixed_end
  fixed_long e h = rw (le-ltb (length v) e h) refl

  pub integer_short : Absent v (p + 8) → own_end 2 v p ≡ 0
  unfolding own_end
  integer_short h = fixed_short (p + 8) (until_none _ _ h)

  pub integer_measured : {e n : ℕ} {z y : ℤ} → Present v (p + 8) e → y ≡ z → z ≡ integer_of (take 8 (drop p v)) → n ≡ length (fewest_of y) → n ≤ 8
      → MeasuresSome 2 v p (Some (record { end = e; size = n }))
  unfolding own_end leaf_of encode
  integer_measured h ey ez en g =
      let w = until_some _ _ h in
      shaped (w.0 ∙ sym (fixed_long (p + 8) w.1)) (λ _. omega arith) (en ∙ ap (λ (i : ℤ). length (fewest_of i)) (ey ∙ ez)) (omega arith)

  pub bits_short : Absent v (p + 2) → own_end 3 v p ≡ 0
  unfolding own_end bits_end
  bits_short h = rw (lt-ltb (length v) (p + 2) (until_none _ _ h)) refl

  module _ {o : ℕ} (h : Present v (p + 2) o) (n : ℕ) (en : n ≡ two v p) where
    pub bits_cut : Absent v (o + (n + 7) / 8) → own_end 3 v p ≡ 0
    unfolding own_end bits_end
    bits_cut g =
        let w = until_some _ _ h in
        let l = until_none _ _ (rw w.0 at g) in
        rw (le-ltb (length v) (p + 2) w.1, lt-ltb (length v) (p + 2 + octets_for (two v p)) (rw (← en) l)) refl

    module _ {e : ℕ} (g : Present v (o + (n + 7) / 8) e) (t : Bool) (et : t ≡ clear_at v o n) where
      bits_there_lem : p + 2 + octets_for (two v p) ≤ length v
      bits_there_lem = rw (← en, ← (until_some _ _ h).0) (until_some _ _ g).1

      bits_test : (b : Bool) → t ≡ b → clear_at v (p + 2) (two v p) ≡ b
      bits_test b f = rw (← en, ← (until_some _ _ h).0) (sym et ∙ f)

      pub bits_unclear : t ≡ false → own_end 3 v p ≡ 0
      unfolding own_end bits_end
      bits_unclear f =
          rw (
            le-ltb (length v) (p + 2) (until_some _ _ h).1,
            le-ltb (length v) (p + 2 + octets_for (two v p)) bits_there_lem,
            bits_test false f,
          ) refl

      pub bits_measured : t ≡ true → n < 65536 → MeasuresSome 3 v p (Some (record { end = e; size = (n + 7) / 8 + 1 }))
      unfolding own_end bits_end leaf_of encode
      bits_measured f l =
          let w = until_some _ _ g in
          let u = until_some _ _ h in
          shaped (w.0 ∙ rw (
            le-ltb (length v) (p + 2) u.1,
            le-ltb (length v) (p + 2 + octets_for (two v p)) bits_there_lem,
            bits_test true f,
            u.0,
            en,
          ) refl) (λ _. omega arith) (rw (en, part_length v (p + 2) (octets_for (two v p)) bits_there_lem) (omega arith)) (omega arith)

  pub string_short : Absent v (p + 2) → own_end 4 v p ≡ 0
  unfolding own_end string_end
  string_short h = rw (lt-ltb (length v) (p + 2) (until_none _ _ h)) refl

  module _ {o : ℕ} (h : Present v (p + 2) o) (n : ℕ) (en : n ≡ two v p) where
    pub string_cut : Absent v (o + n) → own_end 4 v p ≡ 0
    unfolding own_end string_end
    string_cut g =
        let w = until_some _ _ h in
        let l = until_none _ _ (rw w.0 at g) in
        rw (le-ltb (length v) (p + 2) w.1, lt-ltb (length v) (p + 2 + two v p) (rw (← en) l)) refl

    pub string_measured : {e : ℕ} → Present v (o + n) e → n < 65536 → MeasuresSome 4 v p (Some (record { end = e; size = n }))
    unfolding own_end string_end leaf_of encode
    string_measured g l =
        let u = until_some _ _ h in
        let x = until_some _ _ g in
        let w : p + 2 + two v p ≤ length v = rw (← en, ← u.0) x.1 in
        shaped (x.0 ∙ rw (le-ltb (length v) (p + 2) u.1, le-ltb (length v) (p + 2 + two v p) w, u.0, en) refl) (λ _. omega arith)
        (en ∙ sym (part_length v (p + 2) (two v p) w)) l

  pub null_measured : MeasuresSome 5 v p (Some (record { end = p; size = 0 }))
  unfolding own_end leaf_of encode
  null_measured = let e : p ≡ own_end 5 v p = refl in shaped e (λ h. h) refl (omega arith)

  pub number_short : Absent v (p + 2) → own_end 10 v p ≡ 0
  unfolding own_end
  number_short h = fixed_short (p + 2) (until_none _ _ h)

  pub number_measured : {e s : ℕ} (n : ℕ) → Present v (p + 2) e → n ≡ two v p → s ≡ length (fewest_of (pos n)) → s ≤ 8
      → MeasuresSome 10 v p (Some (record { end = e; size = s }))
  unfolding own_end leaf_of encode
  number_measured n h en es g =
      let w = until_some _ _ h in
      shaped (w.0 ∙ sym (fixed_long (p + 2) w.1)) (λ _. omega arith) (es ∙ rw en refl) (omega arith)

  -- a time of a kind
  module _ (k : TimeKind) where
    pub time_short : Absent v (p + 7) → own_end (time_number k) v p ≡ 0
    unfolding time_end
    time_short h = own_time_lem k v p ∙ rw (lt-ltb (length v) (p + 7) (until_none _ _ h)) refl

    module _ {e : ℕ} (h : Present v (p + 7) e) {t : DateTime} (et : t ≡ time_at v p) (w : Bool) (ew : w ≡ in_range k t) where
      in_range_lem : (b : Bool) → w ≡ b → in_range k (time_at v p) ≡ b
      in_range_lem b f = rw (← et) (sym ew ∙ f)

      pub time_outside : w ≡ false → own_end (time_number k) v p ≡ 0
      unfolding time_end
      time_outside f = own_time_lem k v p ∙ rw (le-ltb (length v) (p + 7) (until_some _ _ h).1, in_range_lem false f) refl

      pub time_measured : {n : ℕ} → w ≡ true → n ≡ time_size k → MeasuresSome (time_number k) v p (Some (record { end = e; size = n }))
      unfolding time_end encode
      time_measured f s =
          let x = until_some _ _ h in
          shaped (x.0 ∙ sym (own_time_lem k v p ∙ rw (le-ltb (length v) (p + 7) x.1, in_range_lem true f) refl)) (λ _. omega arith)
          (s ∙ sym (rw (leaf_time k v p) (length_time k (time_at v p)))) (rw s (time_few k))

-- the last simple kinds, those of times, if it is none of the others
abbrev pub LastLeaf : ℕ → Type 0
LastLeaf k = constructed_of k ≡ false → eqb k 1 ≡ false → eqb k 2 ≡ false → eqb k 3 ≡ false → eqb k 4 ≡ false → eqb k 5 ≡ false → eqb k 10 ≡ false
    → k ≡ time_number (time_kind k)

pub last_leaf : (k : ℕ) → LastLeaf k
unfolding body_at constructed time_kind
last_leaf k =
    at k 23 LastLeaf (λ _ _ _ _ _ _ _. refl) λ e₂₃.
    at k 24 LastLeaf (λ _ _ _ _ _ _ _. refl) λ e₂₄ h e₁ e₂ e₃ e₄ e₅ e₁₀.
    let (e₁₆, e₁₇, e₄₈, e₄₉, e₅₀) = no_built k h in
    absurd (true≢false (rw (e₁, e₂, e₃, e₄, e₅, e₁₀, e₂₃, e₂₄, e₁₆, e₁₇, e₄₈, e₄₉) at h))

-- a kind that is not constructed, and none of the first six, is one of the two times
pub time_left : (k : Kind) (i : TimeKind) → constructed_of (octet_of k) ≡ false → (k ≡ Boolean → ⊥) → (k ≡ Integer → ⊥) → (k ≡ BitString → ⊥)
    → (k ≡ OctetString → ⊥) → (k ≡ Null → ⊥) → (k ≡ Enumerated → ⊥) → i ≡ time_kind (octet_of k) → octet_of k ≡ time_number i
unfolding time_kind body_at constructed
time_left k i h b₁ b₂ b₃ b₄ b₅ b₁₀ e = grind arith

-- a leaf that is shaped, by its kind: where it ends, and its contents octets
module _ (k : Kind) (v : List ℕ) (p : ℕ) (h : 0 < own_end (octet_of k) v p) where
  module _ (e : k ≡ Boolean) where
    own_boolean_lem : own_end (octet_of k) v p ≡ boolean_end v p
    unfolding own_end
    own_boolean_lem = rw e refl

    boolean_is : (boolean_end v p ≡ p + 1) × (p < length v)
    unfolding boolean_end
    boolean_is =
        let g = rw own_boolean_lem at h in
        test (ltb (length v) (p + 1)) (λ t. none (rw t at g)) λ t.
        test (leb 2 (get_or v p 0)) (λ s. none (rw (t, s) at g)) λ s. (rw (t, s) refl, (let w : p + 1 ≤ length v = ltb-false _ _ t in omega arith))

    pub boolean_there : p < length v
    boolean_there = boolean_is.1

    pub boolean_end_lem : p + 1 ≡ own_end (octet_of k) v p
    boolean_end_lem = sym (own_boolean_lem ∙ boolean_is.0)

    encode_boolean : encode (leaf_of (octet_of k) v p) ≡ truth (eqb (get_or v p 0) 1) ∷ []
    unfolding encode leaf_of
    encode_boolean = rw e refl

    pub boolean_size : 1 ≡ length (encode (leaf_of (octet_of k) v p))
    boolean_size = sym (ap length encode_boolean)

    pub encode_true : get_or v p 0 ≡ 1 → encode (leaf_of (octet_of k) v p) ≡ 255 ∷ []
    encode_true g = encode_boolean ∙ rw (eq-eqb (get_or v p 0) 1 g) refl

    pub encode_false : (get_or v p 0 ≡ 1 → ⊥) → encode (leaf_of (octet_of k) v p) ≡ 0 ∷ []
    encode_false g = encode_boolean ∙ rw (ne_eqb (get_or v p 0) 1 g) refl

  module _ (e : k ≡ Integer) where
    own_integer_lem : own_end (octet_of k) v p ≡ fixed_end v (p + 8)
    unfolding own_end
    own_integer_lem = rw e refl

    pub integer_there : p + 8 ≤ length v
    integer_there = (fixed_is v (p + 8) (rw own_integer_lem at h)).1

    pub integer_end : p + 8 ≡ own_end (octet_of k) v p
    integer_end = sym (own_integer_lem ∙ (fixed_is v (p + 8) (rw own_integer_lem at h)).0)

    pub encode_integer : (z y : ℤ) → y ≡ z → z ≡ integer_of (take 8 (drop p v)) → fewest_of y ≡ encode (leaf_of (octet_of k) v p)
    unfolding encode leaf_of
    encode_integer z y f g = ap fewest_of (f ∙ g) ∙ rw e refl

  module _ (e : k ≡ BitString) where
    own_bits_lem : own_end (octet_of k) v p ≡ bits_end v p
    unfolding own_end
    own_bits_lem = rw e refl

    bits_is : (bits_end v p ≡ p + 2 + octets_for (two v p)) × (p + 2 + octets_for (two v p) ≤ length v)
    unfolding bits_end
    bits_is =
        let g = rw own_bits_lem at h in
        test (ltb (length v) (p + 2)) (λ t. none (rw t at g)) λ t.
        test (ltb (length v) (p + 2 + octets_for (two v p))) (λ s. none (rw (t, s) at g)) λ s.
        test (not (clear_at v (p + 2) (two v p))) (λ c. none (rw (t, s, c) at g)) λ c. (rw (t, s, c) refl, ltb-false _ _ s)

    pub bits_there : p + 2 ≤ length v
    bits_there = let w = bits_is.1 in omega arith

    encode_bits : encode (leaf_of (octet_of k) v p) ≡ spare_in (two v p) ∷ take (octets_for (two v p)) (drop (p + 2) v)
    unfolding encode leaf_of
    encode_bits = rw e refl

    pub bits_long : length (encode (leaf_of (octet_of k) v p)) ≡ octets_for (two v p) + 1
    bits_long = let w = bits_is.1 in rw (encode_bits, part_length v (p + 2) (octets_for (two v p)) w) (omega arith)

    module _ (n : ℕ) (en : n ≡ length (encode (leaf_of (octet_of k) v p))) where
      bits_one : n ≡ octets_for (two v p) + 1
      bits_one = en ∙ bits_long

      pub bits_within : p + 2 + (n - 1) ≤ length v
      bits_within = let w = bits_one in omega (arith, bits_is.1)

      pub bits_end_lem : p + 2 + (n - 1) ≡ own_end (octet_of k) v p
      bits_end_lem = let w = bits_one in let q : p + 2 + (n - 1) ≡ p + 2 + octets_for (two v p) = omega arith in q ∙ sym (own_bits_lem ∙ bits_is.0)

      pub bits_put : (x to : ℕ) (first last : List ℕ) → x ≡ two v p → last ≡ sets (set first to (8 * (n - 1) - x)) (to + 1) (take (n - 1) (drop (p + 2) v))
          → last ≡ sets first to (encode (leaf_of (octet_of k) v p))
      bits_put x to first last ex d =
          let w = bits_one in
          let q : n - 1 ≡ octets_for (two v p) = omega arith in
          let z : to + 1 ≡ suc to = omega arith in
          rw encode_bits (rw (ex, q, z) at d)

  module _ (e : k ≡ OctetString) where
    own_string_lem : own_end (octet_of k) v p ≡ string_end v p
    unfolding own_end
    own_string_lem = rw e refl

    string_is : (string_end v p ≡ p + 2 + two v p) × (p + 2 + two v p ≤ length v)
    unfolding string_end
    string_is =
        let g = rw own_string_lem at h in
        test (ltb (length v) (p + 2)) (λ t. none (rw t at g)) λ t.
        test (ltb (length v) (p + 2 + two v p)) (λ s. none (rw (t, s) at g)) λ s. (rw (t, s) refl, ltb-false _ _ s)

    pub string_there : p + 2 ≤ length v
    string_there = let w = string_is.1 in omega arith

    encode_string : encode (leaf_of (octet_of k) v p) ≡ take (two v p) (drop (p + 2) v)
    unfolding encode leaf_of
    encode_string = rw e refl

    pub string_size : (n : ℕ) → n ≡ two v p → n ≡ length (encode (leaf_of (octet_of k) v p))
    string_size n en = en ∙ sym (ap length encode_string ∙ part_length v (p + 2) (two v p) string_is.1)

    module _ (n : ℕ) (en : n ≡ length (encode (leaf_of (octet_of k) v p))) where
      string_long : n ≡ two v p
      string_long = en ∙ sym (string_size (two v p) refl)

      pub string_within : p + 2 + n ≤ length v
      string_within = let w = string_long in omega (arith, string_is.1)

      pub string_end_lem : p + 2 + n ≡ own_end (octet_of k) v p
      string_end_lem = rw string_long (sym (own_string_lem ∙ string_is.0))

      pub string_put : take n (drop (p + 2) v) ≡ encode (leaf_of (octet_of k) v p)
      string_put = rw string_long (sym encode_string)

  module _ (e : k ≡ Null) where
    pub null_end : p ≡ own_end (octet_of k) v p
    unfolding own_end
    null_end = rw e refl

    encode_null : encode (leaf_of (octet_of k) v p) ≡ []
    unfolding encode leaf_of
    encode_null = rw e refl

    pub null_size : 0 ≡ length (encode (leaf_of (octet_of k) v p))
    null_size = sym (ap length encode_null)

    pub null_put : (to : ℕ) (first : List ℕ) → first ≡ sets first to (encode (leaf_of (octet_of k) v p))
    null_put to first = rw encode_null refl

  module _ (e : k ≡ Enumerated) where
    own_number : own_end (octet_of k) v p ≡ fixed_end v (p + 2)
    unfolding own_end
    own_number = rw e refl

    pub number_there : p + 2 ≤ length v
    number_there = (fixed_is v (p + 2) (rw own_number at h)).1

    pub number_end : p + 2 ≡ own_end (octet_of k) v p
    number_end = sym (own_number ∙ (fixed_is v (p + 2) (rw own_number at h)).0)

    pub encode_number : (n : ℕ) → n ≡ two v p → fewest_of (pos n) ≡ encode (leaf_of (octet_of k) v p)
    unfolding encode leaf_of
    encode_number n en = rw (e, en) refl

  module _ (i : TimeKind) (ei : octet_of k ≡ time_number i) where
    time_shaped : 0 < time_end i v p
    time_shaped = rw (ei, own_time_lem i v p) at h

    pub time_there : p + 7 ≤ length v
    time_there = (time_in_lem i v p time_shaped).1

    pub time_ranged : in_range i (time_at v p) ≡ true
    time_ranged = (time_in_lem i v p time_shaped).2

    pub time_end_lem : p + 7 ≡ own_end (octet_of k) v p
    time_end_lem = sym (time_in_lem i v p time_shaped).0 ∙ sym (rw ei (own_time_lem i v p))

    pub encode_time : time_digits i (time_at v p) ≡ encode (leaf_of (octet_of k) v p)
    unfolding encode
    encode_time = rw (ei, leaf_time i v p) refl

    pub time_size_lem : (n : ℕ) → n ≡ time_size i → (n ≡ length (encode (leaf_of (octet_of k) v p))) × (n < 65536)
    time_size_lem n en = (en ∙ sym (length_time i (time_at v p)) ∙ ap length encode_time, rw en (time_few i))

-- eight octets that are all there
pub eight_is : (v : List ℕ) (p : ℕ) → p + 8 ≤ length v → (z : ℤ) → z ≡ integer_of (filled (eight 0) (take (p + 8 - p) (drop p v)))
    → z ≡ integer_of (take 8 (drop p v))
unfolding eight
eight_is v p h z e =
    let q : p + 8 - p ≡ 8 = omega arith in
    let l : eqb (length (take 8 (drop p v))) 8 ≡ true = eq-eqb _ _ (part_length v p 8 h) in
    e ∙ rw (q, l) refl

-- the time of seven octets
time_taken : (o : List ℕ) → time_at (take 7 o) 0 ≡ time_at o 0
unfolding time_at
time_taken o =
    let f : (i : ℕ) → i < 7 → get_or (take 7 o) i 0 ≡ get_or o i 0 = λ i h. get_or-take 7 o i 0 h in
    rw (f 0 (omega arith), f 1 (omega arith), f 2 (omega arith), f 3 (omega arith), f 4 (omega arith), f 5 (omega arith), f 6 (omega arith)) refl

pub seven_is : (v : List ℕ) (p : ℕ) (t : DateTime) → t ≡ time_at (take (p + 7 - p) (drop p v)) 0 → t ≡ time_at v p
seven_is v p t e = let q : p + 7 - p ≡ 7 = omega arith in e ∙ rw q (time_taken (drop p v)) ∙ time_at_lem v p
