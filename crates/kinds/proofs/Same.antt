-- What equality of kinds says of their octets. The octet of a kind is no other's, and a number that is none of them counts as a message's.
-- Assumes nothing.
use Rattle.std.proofs.Common.{Bool, true, false, not, ◌||◌, ◌⊎◌, inl, inr, ℕ, List, [], ◌∷◌, ◌≡◌, ◌<◌, ◌≤◌, refl, sym, ◌∙◌, ap, eq-eqb, arith}
use mathlib.Core.Logic.{⊎_elim}
use Rattle.octets.specs.Lists.{lowest_from}
use Rattle.octets.proofs.Tests.{test}
use Rattle.octets.proofs.Search.{upto}
use denote.Enum.Bare.{sameb}
use denote.Enum.Declared.{tag_of}
use borrow.Author.Tests.{ne_eqb, eqb-true, eqb-false, not-true, not-false}
use lib.Dec.{eqb}
use lib.ListN.{get_or}
use Rattle.octets.proofs.Members.{or_right}
use Rattle.kinds.specs.contracts.Kind.{the_type}
use Rattle.kinds.specs.declared.Kind.{Kind}
use Rattle.kinds.specs.declared.Kind.TheVariants.{Boolean, Integer, BitString, OctetString, Null, Enumerated, UtcTime, GeneralizedTime, Sequence, Set, SequenceOf, SetOf, Choice, Message}
use Rattle.kinds.specs.Kinds.{octet_of, place_of, kinds, kind_at, kind_among, kind_of}

pub octet_back : (k : Kind) → kind_of (octet_of k) ≡ k
unfolding kind_of
octet_back Boolean = refl
octet_back Integer = refl
octet_back BitString = refl
octet_back OctetString = refl
octet_back Null = refl
octet_back Enumerated = refl
octet_back UtcTime = refl
octet_back GeneralizedTime = refl
octet_back Sequence = refl
octet_back Set = refl
octet_back SequenceOf = refl
octet_back SetOf = refl
octet_back Choice = refl
octet_back Message = refl

pub same_kind : (j k : Kind) → octet_of j ≡ octet_of k → j ≡ k
same_kind j k e = sym (octet_back j) ∙ ap kind_of e ∙ octet_back k

pub kind_back : (k : Kind) → kind_at (place_of k) ≡ k
unfolding kind_at
kind_back Boolean = refl
kind_back Integer = refl
kind_back BitString = refl
kind_back OctetString = refl
kind_back Null = refl
kind_back Enumerated = refl
kind_back UtcTime = refl
kind_back GeneralizedTime = refl
kind_back Sequence = refl
kind_back Set = refl
kind_back SequenceOf = refl
kind_back SetOf = refl
kind_back Choice = refl
kind_back Message = refl

pub place_low : (k : Kind) → place_of k < 256
place_low Boolean = omega arith
place_low Integer = omega arith
place_low BitString = omega arith
place_low OctetString = omega arith
place_low Null = omega arith
place_low Enumerated = omega arith
place_low UtcTime = omega arith
place_low GeneralizedTime = omega arith
place_low Sequence = omega arith
place_low Set = omega arith
place_low SequenceOf = omega arith
place_low SetOf = omega arith
place_low Choice = omega arith
place_low Message = omega arith

tag_place : (k : Kind) → tag_of the_type k ≡ place_of k
tag_place Boolean = refl
tag_place Integer = refl
tag_place BitString = refl
tag_place OctetString = refl
tag_place Null = refl
tag_place Enumerated = refl
tag_place UtcTime = refl
tag_place GeneralizedTime = refl
tag_place Sequence = refl
tag_place Set = refl
tag_place SequenceOf = refl
tag_place SetOf = refl
tag_place Choice = refl
tag_place Message = refl

same_place : (j k : Kind) → place_of j ≡ place_of k → j ≡ k
same_place j k e = sym (kind_back j) ∙ ap kind_at e ∙ kind_back k

module _ (j k : Kind) {r : Bool} (e : r ≡ sameb the_type j k) where
  by_place : r ≡ eqb (place_of j) (place_of k)
  by_place = rw (← tag_place j, ← tag_place k) e

  pub is_kind : r ≡ true → octet_of j ≡ octet_of k
  is_kind t = ap octet_of (same_place j k (eqb-true _ _ (sym by_place ∙ t)))

  pub not_kind : r ≡ false → octet_of j ≡ octet_of k → ⊥
  not_kind f q = eqb-false _ _ (sym by_place ∙ f) (ap place_of (same_kind j k q))

module _ (j k : Kind) {r : Bool} (e : r ≡ not (sameb the_type j k)) where
  pub is_other : r ≡ true → octet_of j ≡ octet_of k → ⊥
  is_other t = not_kind j k refl (not-true _ (sym e ∙ t))

  pub not_other : r ≡ false → octet_of j ≡ octet_of k
  not_other f = is_kind j k refl (not-false _ (sym e ∙ f))

-- a number is the octet of the kind that it counts as, or that is a message
among : (n : ℕ) (ks : List Kind) → (octet_of (kind_among n ks) ≡ n) ⊎ (kind_among n ks ≡ Message)
among n [] = inr refl
among n (k ∷ ks) = test (eqb (octet_of k) n) (λ e. rw e (inl (eqb-true _ _ e))) λ e. rw e (among n ks)

module _ (n : ℕ) where
  pub counts_as : (octet_of (kind_of n) ≡ n) ⊎ ((kind_of n ≡ Message) × ((k : Kind) → octet_of k ≡ n → ⊥))
  unfolding kind_of
  counts_as =
      test (eqb n 51) (λ e. rw (eqb-true n 51 e) (inl refl)) λ e.
      ⊎_elim inl (λ m. inr (m, λ k q. eqb-false n 51 e (sym q ∙ ap octet_of (sym (octet_back k) ∙ ap kind_of q ∙ m)))) (among n kinds)

-- the place of the kind that each octet counts as, by computing each
abbrev places : List ℕ
places =
    13 ∷ 0 ∷ 1 ∷ 2 ∷ 3 ∷ 4 ∷ 13 ∷ 13 ∷ 13 ∷ 13 ∷ 5 ∷ 13 ∷ 13 ∷ 13 ∷ 13 ∷ 13 ∷ 8 ∷ 9 ∷ 13 ∷ 13 ∷ 13 ∷ 13 ∷ 13 ∷ 6 ∷ 7 ∷ 13 ∷ 13 ∷ 13 ∷ 13 ∷ 13 ∷ 13 ∷ 13 ∷ 13 ∷ 13 ∷ 13 ∷ 13 ∷
    13 ∷ 13 ∷ 13 ∷ 13 ∷ 13 ∷ 13 ∷ 13 ∷ 13 ∷ 13 ∷ 13 ∷ 13 ∷ 13 ∷ 10 ∷ 11 ∷ 12 ∷ 13 ∷ []

pub placed : (n : ℕ) → n < 52 → kind_at (get_or places n 0) ≡ kind_of n
unfolding lowest_from kind_at kind_of
placed n h =
    same_kind _ _ (eqb-true _ _
    (not-false _ (upto (λ i. not (eqb (octet_of (kind_at (get_or places i 0))) (octet_of (kind_of i)))) 52 refl n h)))

pub beyond : (n : ℕ) → 52 ≤ n → Message ≡ kind_of n
beyond n h = ⊎_elim (λ e. absurd (high (kind_of n) e)) (λ m. sym m.0) (counts_as n)
  where
    high : (k : Kind) → octet_of k ≡ n → ⊥
    high Boolean e = omega (arith, e)
    high Integer e = omega (arith, e)
    high BitString e = omega (arith, e)
    high OctetString e = omega (arith, e)
    high Null e = omega (arith, e)
    high Enumerated e = omega (arith, e)
    high UtcTime e = omega (arith, e)
    high GeneralizedTime e = omega (arith, e)
    high Sequence e = omega (arith, e)
    high Set e = omega (arith, e)
    high SequenceOf e = omega (arith, e)
    high SetOf e = omega (arith, e)
    high Choice e = omega (arith, e)
    high Message e = omega (arith, e)

-- an octet that no kind has is none of theirs
pub no_octet : (n : ℕ) → ((k : Kind) → octet_of k ≡ n → ⊥)
    → (eqb n 1 ≡ false)
    × (eqb n 2 ≡ false)
    × (eqb n 3 ≡ false)
    × (eqb n 4 ≡ false)
    × (eqb n 5 ≡ false)
    × (eqb n 10 ≡ false)
    × (eqb n 23 ≡ false)
    × (eqb n 24 ≡ false)
    × (eqb n 16 ≡ false)
    × (eqb n 17 ≡ false)
    × (eqb n 48 ≡ false)
    × (eqb n 49 ≡ false)
    × (eqb n 50 ≡ false)
no_octet n h = (
  ne_eqb n 1 (λ e. h Boolean (sym e)),
  ne_eqb n 2 (λ e. h Integer (sym e)),
  ne_eqb n 3 (λ e. h BitString (sym e)),
  ne_eqb n 4 (λ e. h OctetString (sym e)),
  ne_eqb n 5 (λ e. h Null (sym e)),
  ne_eqb n 10 (λ e. h Enumerated (sym e)),
  ne_eqb n 23 (λ e. h UtcTime (sym e)),
  ne_eqb n 24 (λ e. h GeneralizedTime (sym e)),
  ne_eqb n 16 (λ e. h Sequence (sym e)),
  ne_eqb n 17 (λ e. h Set (sym e)),
  ne_eqb n 48 (λ e. h SequenceOf (sym e)),
  ne_eqb n 49 (λ e. h SetOf (sym e)),
  ne_eqb n 50 (λ e. h Choice (sym e)),
)

pub differs : {j k : Kind} → (j ≡ k → ⊥) → eqb (octet_of j) (octet_of k) ≡ false
differs f = ne_eqb _ _ (λ e. f (same_kind _ _ e))

-- what an arm for two kinds knows, and one after it
module _ {j k l : Kind} where
  pub one_of : (j ≡ k) ⊎ (j ≡ l) → (eqb (octet_of j) (octet_of k) || eqb (octet_of j) (octet_of l)) ≡ true
  one_of (inl e) = rw (eq-eqb _ _ (ap octet_of e)) refl
  one_of (inr e) = or_right (eqb (octet_of j) (octet_of k)) _ (eq-eqb _ _ (ap octet_of e))

  pub none_of : (j ≡ k → ⊥) → (j ≡ l → ⊥) → (eqb (octet_of j) (octet_of k) || eqb (octet_of j) (octet_of l)) ≡ false
  none_of f g = rw (differs f, differs g) refl
