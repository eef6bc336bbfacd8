-- The identifier octets of the kinds, by computing each, and what a number that is no kind's counts as.
-- Assumes nothing.
use Rattle.std.proofs.Common.{true, List, [], ◌∷◌, ◌≡◌, ℕ, ◌/◌, ◌%◌, ◌≤◌, refl, arith}
use mathlib.Core.Logic.{⊎_elim}
use borrow.Author.Tests.{ne_eqb}
use denote.Enum.Declared.{tag_of}
use lib.Dec.{eqb}
use lib.ListN.{get_or}
use Rattle.table.specs.Syntax.{Choice, universal, constructed}
use Rattle.table.specs.Reading.{every_at, body_at}
use Rattle.table.specs.Fields.{universal_of, constructed_of}
use Rattle.kinds.specs.contracts.Kind.{the_type}
use Rattle.kinds.specs.declared.Kind.{Kind}
use Rattle.kinds.specs.declared.Kind.TheVariants.{Boolean, Integer, BitString, OctetString, Null, Enumerated, UtcTime, GeneralizedTime, Sequence, Set, SequenceOf, SetOf, Choice as ChoiceKind, Message}
use Rattle.kinds.specs.Kinds.{octet_of, kind_of}
use Rattle.kinds.proofs.Same.{no_octet, counts_as}

abbrev identifiers : List ℕ
identifiers = 1 ∷ 2 ∷ 3 ∷ 4 ∷ 5 ∷ 10 ∷ 23 ∷ 24 ∷ 48 ∷ 49 ∷ 48 ∷ 49 ∷ 32 ∷ 32 ∷ []

pub universal_table : (k : Kind) → get_or identifiers (tag_of the_type k) 0 % 32 ≡ universal_of (octet_of k)
unfolding body_at every_at universal
universal_table Boolean = refl
universal_table Integer = refl
universal_table BitString = refl
universal_table OctetString = refl
universal_table Null = refl
universal_table Enumerated = refl
universal_table UtcTime = refl
universal_table GeneralizedTime = refl
universal_table Sequence = refl
universal_table Set = refl
universal_table SequenceOf = refl
universal_table SetOf = refl
universal_table ChoiceKind = refl
universal_table Message = refl

pub constructed_table : (k : Kind) → eqb (get_or identifiers (tag_of the_type k) 0 / 32) 1 ≡ constructed_of (octet_of k)
unfolding body_at every_at constructed
constructed_table Boolean = refl
constructed_table Integer = refl
constructed_table BitString = refl
constructed_table OctetString = refl
constructed_table Null = refl
constructed_table Enumerated = refl
constructed_table UtcTime = refl
constructed_table GeneralizedTime = refl
constructed_table Sequence = refl
constructed_table Set = refl
constructed_table SequenceOf = refl
constructed_table SetOf = refl
constructed_table ChoiceKind = refl
constructed_table Message = refl

-- a number that is no kind's octet counts as a CHOICE
pub no_kind_choice : (k : ℕ) → ((j : Kind) → octet_of j ≡ k → ⊥) → body_at [] k 0 ≡ Choice []
unfolding body_at every_at
no_kind_choice k h =
    let (e₁, e₂, e₃, e₄, e₅, e₁₀, e₂₃, e₂₄, e₁₆, e₁₇, e₄₈, e₄₉, e₅₀) = no_octet k h in
    rw (e₁, e₂, e₃, e₄, e₅, e₁₀, e₂₃, e₂₄, e₁₆, e₁₇, e₄₈, e₄₉) refl

pub no_kind_constructed : (k : ℕ) → ((j : Kind) → octet_of j ≡ k → ⊥) → constructed_of k ≡ true
unfolding constructed
no_kind_constructed k h = rw (no_kind_choice k h) refl

-- so does a large one
pub no_kind : (k : ℕ) → 50 ≤ k → body_at [] k 0 ≡ Choice []
unfolding body_at every_at
no_kind k h =
    rw (
      ne_eqb k 1 (omega arith),
      ne_eqb k 2 (omega arith),
      ne_eqb k 3 (omega arith),
      ne_eqb k 4 (omega arith),
      ne_eqb k 5 (omega arith),
      ne_eqb k 10 (omega arith),
      ne_eqb k 23 (omega arith),
      ne_eqb k 24 (omega arith),
      ne_eqb k 16 (omega arith),
      ne_eqb k 17 (omega arith),
      ne_eqb k 48 (omega arith),
      ne_eqb k 49 (omega arith),
    )

pub universal_beyond : (k : ℕ) → 50 ≤ k → 0 ≡ universal_of k
unfolding universal
universal_beyond k h = rw no_kind

pub constructed_beyond : (k : ℕ) → 50 ≤ k → true ≡ constructed_of k
unfolding constructed
constructed_beyond k h = rw no_kind

-- what a number says of its own tag, the kind says that it counts as
pub universal_kept : (k : ℕ) → universal_of (octet_of (kind_of k)) ≡ universal_of k
unfolding body_at every_at universal
universal_kept k = ⊎_elim (λ e. rw e refl) (λ x. rw (x.0, no_kind_choice k x.1) refl) (counts_as k)

pub constructed_kept : (k : ℕ) → constructed_of (octet_of (kind_of k)) ≡ constructed_of k
unfolding body_at every_at constructed
constructed_kept k = ⊎_elim (λ e. rw e refl) (λ x. rw (x.0, no_kind_choice k x.1) refl) (counts_as k)
