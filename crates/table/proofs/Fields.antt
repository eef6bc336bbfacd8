-- What the kind of a record says without its own part.
-- Assumes nothing.
use mathlib.Core.List.{List, []}
use mathlib.Core.Path.{◌≡◌, refl}
use Prim.Native.Nat.{ℕ}
use Rattle.octets.proofs.Tests.{at}
use Rattle.table.specs.Syntax.{Member, Enumerated, Body, Plain, Sequence, Set, SequenceOf, SetOf, Choice, universal, constructed}
use Rattle.table.specs.Reading.{body_at}
use Rattle.table.specs.Fields.{universal_of, constructed_of}

-- bodies of one kind
data Alike : Body → Body → Type 0 where
  same : {x : Body} → Alike x x
  numbers : (l m : List ℕ) → Alike (Plain (Enumerated l)) (Plain (Enumerated m))
  sequences : (l m : List Member) → Alike (Sequence l) (Sequence m)
  sets : (l m : List Member) → Alike (Set l) (Set m)
  sequence_ofs : (t u : ℕ) → Alike (SequenceOf t) (SequenceOf u)
  set_ofs : (t u : ℕ) → Alike (SetOf t) (SetOf u)
  choices : (l m : List ℕ) → Alike (Choice l) (Choice m)

abbrev AlikeAt : List ℕ → ℕ → ℕ → Type 0
AlikeAt b p k = Alike (body_at b k p) (body_at [] k 0)

alike : (b : List ℕ) (k p : ℕ) → Alike (body_at b k p) (body_at [] k 0)
unfolding body_at
alike b k p =
    at k 1 (AlikeAt b p) same λ e₁.
    at k 2 (AlikeAt b p) same λ e₂.
    at k 3 (AlikeAt b p) same λ e₃.
    at k 4 (AlikeAt b p) same λ e₄.
    at k 5 (AlikeAt b p) same λ e₅.
    at k 10 (AlikeAt b p) (numbers _ _) λ e₁₀.
    at k 23 (AlikeAt b p) same λ e₂₃.
    at k 24 (AlikeAt b p) same λ e₂₄.
    at k 16 (AlikeAt b p) (sequences _ _) λ e₁₆.
    at k 17 (AlikeAt b p) (sets _ _) λ e₁₇.
    at k 48 (AlikeAt b p) (sequence_ofs _ _) λ e₄₈.
    at k 49 (AlikeAt b p) (set_ofs _ _) λ e₄₉.
    rw (e₁, e₂, e₃, e₄, e₅, e₁₀, e₂₃, e₂₄, e₁₆, e₁₇, e₄₈, e₄₉) (choices _ _)

universal_alike : {x y : Body} → Alike x y → universal x ≡ universal y
unfolding universal
universal_alike same = refl
universal_alike (numbers l m) = refl
universal_alike (sequences l m) = refl
universal_alike (sets l m) = refl
universal_alike (sequence_ofs t u) = refl
universal_alike (set_ofs t u) = refl
universal_alike (choices l m) = refl

constructed_alike : {x y : Body} → Alike x y → constructed x ≡ constructed y
unfolding constructed
constructed_alike same = refl
constructed_alike (numbers l m) = refl
constructed_alike (sequences l m) = refl
constructed_alike (sets l m) = refl
constructed_alike (sequence_ofs t u) = refl
constructed_alike (set_ofs t u) = refl
constructed_alike (choices l m) = refl

module _ (b : List ℕ) (k p : ℕ) where
  pub universal_of_lem : universal (body_at b k p) ≡ universal_of k
  universal_of_lem = universal_alike (alike b k p)

  pub constructed_of_lem : constructed (body_at b k p) ≡ constructed_of k
  constructed_of_lem = constructed_alike (alike b k p)
