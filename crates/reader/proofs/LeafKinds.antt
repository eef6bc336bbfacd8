-- Simple contents by their kind: what is right for it, and what their value has behind the mark and the kind.
-- Assumes nothing.
use mathlib.Core.Bool.{true, not}
use mathlib.Core.List.{List, [], ◌∷◌, ◌++◌}
use mathlib.Core.Path.{◌≡◌, refl, ap, ◌∙◌}
use Prim.Native.Nat.{ℕ, suc, ◌+◌, ◌-◌, ◌*◌, ◌≤◌, ◌<◌}
use native.Mathlib.Omega.{arith}
use borrow.Author.Tests.{eqb-true, ltb-true}
use lib.Dec.{eqb}
use lib.IntN.{pos}
use lib.ListN.{length, get_or, drop}
use lib.Seq.{sets}
use Rattle.octets.specs.Answer.{if}
use Rattle.octets.specs.Numbers.{octets_of}
use Rattle.x690.specs.Integer.{integer_of, eight_of}
use Rattle.x690.specs.BitString.{unused, masked}
use Rattle.x690.proofs.BitString.{length_masked}
use Rattle.x690.specs.Time.{time_of, is_time}
use Rattle.dates.specs.declared.TimeKind.{TimeKind}
use Rattle.dates.specs.declared.TimeKind.TheVariants.{Utc, Generalized}
use Rattle.dates.specs.Own.{time_octets}
use Rattle.table.specs.Fields.{time_kind}
use Rattle.kinds.specs.Kinds.{octet_of}
use Rattle.kinds.specs.declared.Kind.{Kind}
use Rattle.kinds.specs.declared.Kind.TheVariants.{Boolean, Integer, BitString, OctetString, Null, Enumerated, UtcTime, GeneralizedTime}
use Rattle.kinds.proofs.Same.{same_kind}
use Rattle.coding.specs.Value.{Leaf, boolean, integer, bits, string, null, enumerated, time, leaf_octets, flag}
use Rattle.coding.specs.Reading.{natural}
use Rattle.reader.specs.Leaves.{leaf_of, Lawful, one_octet, one_to_eight, some_unused, any_octets, no_octet, small_number, a_time}

-- a leaf has at least three octets
pub leaf_three : (x : Leaf) → 3 ≤ length (leaf_octets x)
unfolding leaf_octets
leaf_three (boolean b) = omega arith
leaf_three (integer z) = omega arith
leaf_three (bits n c) = omega arith
leaf_three (string c) = omega arith
leaf_three null = omega arith
leaf_three (enumerated n) = omega arith
leaf_three (time q t) = omega arith

-- What lawful contents of a kind are; those of a constructed kind never are.
pub record Enumerates (c : List ℕ) : Type 0 where
  pub some_octet : 1 ≤ length c
  pub eight_octets : length c ≤ 8
  pub is : integer_of c ≡ pos (natural (integer_of c))
  pub small : natural (integer_of c) < 65536

abbrev pub Right : Kind → List ℕ → Type 0
Right Boolean c = length c ≡ 1
Right Integer c = (1 ≤ length c) × (length c ≤ 8)
Right BitString c = (1 ≤ length c) × (get_or c 0 0 < 8) × (get_or c 0 0 ≤ 8 * length (drop 1 c))
Right OctetString c = Unit {0}
Right Null c = Unit {0}
Right Enumerated c = Enumerates c
Right UtcTime c = is_time Utc c ≡ true
Right GeneralizedTime c = is_time Generalized c ≡ true
Right k c = ⊥

unused_few : (n : ℕ) (c : List ℕ) → unused n c ≡ true → (n < 8) × (n ≤ 8 * length c)
unfolding unused
unused_few n [] e = let z = eqb-true n 0 e in (omega arith, omega arith)
unused_few n (x ∷ c) e = let z = ltb-true n 8 e in (z, omega arith)

-- What a value has behind the mark and the kind.
abbrev pub after_kind : Kind → List ℕ → List ℕ
after_kind Boolean c = flag (not (eqb (get_or c 0 0) 0)) ∷ []
after_kind Integer c = eight_of (integer_of c)
after_kind BitString c = octets_of (8 * length (drop 1 c) - get_or c 0 0) ++ masked (get_or c 0 0) (drop 1 c)
after_kind OctetString c = octets_of (length c) ++ c
after_kind Enumerated c = octets_of (natural (integer_of c))
after_kind UtcTime c = time_octets (time_of Utc c)
after_kind GeneralizedTime c = time_octets (time_of Generalized c)
after_kind k c = []

module _ {j : Kind} {c : List ℕ} where
  pub right : {k : Kind} → j ≡ k → Lawful (octet_of j) c → Right k c
  right e L = rw e at (by L)
    where
      by : Lawful (octet_of j) c → Right j c
      by (one_octet f l) = rw (same_kind j Boolean f) l
      by (one_to_eight f l g) = rw (same_kind j Integer f) (l, g)
      by (some_unused f l u) = let z = unused_few (get_or c 0 0) (drop 1 c) u in rw (same_kind j BitString f) (l, z.0, z.1)
      by (any_octets f) = rw (same_kind j OctetString f) tt
      by (no_octet f l) = rw (same_kind j Null f) tt
      by (small_number f l i n p q) = rw (same_kind j Enumerated f) (record { some_octet = l; eight_octets = i; is = rw p refl; small = rw p q })
      by (a_time Utc f t) = rw (same_kind j UtcTime f) t
      by (a_time Generalized f t) = rw (same_kind j GeneralizedTime f) t

  pub leaf_is : {k : Kind} → j ≡ k → Lawful (octet_of j) c → leaf_octets (leaf_of (octet_of j) c) ≡ 86 ∷ 65 ∷ octet_of j ∷ after_kind k c
  unfolding leaf_of leaf_octets if
  leaf_is {k = Boolean} e L = rw e refl
  leaf_is {k = Integer} e L = rw e refl
  leaf_is {k = BitString} e L = rw (e, length_masked (get_or c 0 0) (drop 1 c)) refl
  leaf_is {k = OctetString} e L = rw e refl
  leaf_is {k = Null} e L = rw e refl
  leaf_is {k = Enumerated} e L = rw e refl
  leaf_is {k = UtcTime} e L = rw e refl
  leaf_is {k = GeneralizedTime} e L = rw e refl
  leaf_is {k = k} e L = absurd (right e L)

-- a kind that is none of the others is a time
pub time_left : (k : Kind) {c : List ℕ} → Lawful (octet_of k) c
    → (k ≡ Boolean → ⊥) → (k ≡ Integer → ⊥) → (k ≡ BitString → ⊥) → (k ≡ OctetString → ⊥) → (k ≡ Null → ⊥) → (k ≡ Enumerated → ⊥)
    → {q : TimeKind} → q ≡ time_kind (octet_of k)
    → (is_time q c ≡ true) × (leaf_octets (leaf_of (octet_of k) c) ≡ 86 ∷ 65 ∷ octet_of k ∷ time_octets (time_of q c))
unfolding time_kind if
time_left Boolean L h₁ h₂ h₃ h₄ h₅ h₆ e = absurd (h₁ refl)
time_left Integer L h₁ h₂ h₃ h₄ h₅ h₆ e = absurd (h₂ refl)
time_left BitString L h₁ h₂ h₃ h₄ h₅ h₆ e = absurd (h₃ refl)
time_left OctetString L h₁ h₂ h₃ h₄ h₅ h₆ e = absurd (h₄ refl)
time_left Null L h₁ h₂ h₃ h₄ h₅ h₆ e = absurd (h₅ refl)
time_left Enumerated L h₁ h₂ h₃ h₄ h₅ h₆ e = absurd (h₆ refl)
time_left UtcTime L h₁ h₂ h₃ h₄ h₅ h₆ e = rw e (right {k = UtcTime} refl L, leaf_is {k = UtcTime} refl L)
time_left GeneralizedTime L h₁ h₂ h₃ h₄ h₅ h₆ e = rw e (right {k = GeneralizedTime} refl L, leaf_is {k = GeneralizedTime} refl L)
time_left k L h₁ h₂ h₃ h₄ h₅ h₆ e = absurd (right {k = k} refl L)

-- what is stored behind the mark and the kind
pub leaf_placed : {w : List ℕ} {k : ℕ} {X : List ℕ} → w ≡ 86 ∷ 65 ∷ k ∷ X → (b : List ℕ) (to : ℕ) {b₁ b₂ : List ℕ} {r : ℕ} → b₁ ≡ sets b to (86 ∷ 65 ∷ k ∷ [])
    → (r ≡ to + 3 + length X) × (b₂ ≡ sets b₁ (to + 3) X) → (r ≡ to + length w) × (b₂ ≡ sets b to w)
leaf_placed e b to e₁ h =
    let l = ap length e in
    let q : to + 3 ≡ suc (suc (suc to)) = omega arith in
    (omega (arith, h.0), h.1 ∙ rw (e₁, e, q) refl)
