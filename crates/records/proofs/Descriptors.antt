-- A descriptor says of its record what the entry says.
-- Assumes nothing.
use mathlib.Core.List.{List}
use mathlib.Core.Logic.{⊎_elim}
use mathlib.Core.Path.{◌≡◌, refl, sym, subst}
use Prim.Native.Nat.{ℕ}
use Rattle.table.specs.Syntax.{Record}
use Rattle.kinds.specs.Kinds.{octet_of, kind_of}
use Rattle.kinds.proofs.Same.{no_octet, counts_as}
use Rattle.records.specs.Entries.{unpacked, tag_count, span_of, Entered}
use Rattle.records.specs.Descriptors.{descriptor_of, entry_of, described, Describes}
use Rattle.records.specs.declared.entry.Entry.{Entry}
use Rattle.records.proofs.Entries.{entered_known}

-- a number that is no kind's octet has no parts, and is no CHOICE
pub span_kept : (b : List ℕ) (k p : ℕ) → span_of b (octet_of (kind_of k)) p ≡ span_of b k p
unfolding span_of
span_kept b k p =
    ⊎_elim (λ e. rw e refl)
    (λ x.
    let (e₁, e₂, e₃, e₄, e₅, e₁₀, e₂₃, e₂₄, e₁₆, e₁₇, e₄₈, e₄₉, e₅₀) = no_octet k x.1 in
    rw (x.0, e₁₆, e₁₇, e₄₈, e₄₉, e₅₀) refl) (counts_as k)

pub count_kept : (e : Entry) → tag_count (entry_of (descriptor_of e)) ≡ tag_count e
unfolding tag_count
count_kept e =
    ⊎_elim (λ q. rw q refl)
    (λ x.
    let (e₁, e₂, e₃, e₄, e₅, e₁₀, e₂₃, e₂₄, e₁₆, e₁₇, e₄₈, e₄₉, e₅₀) = no_octet e.kind x.1 in
    rw (x.0, e₅₀) refl) (counts_as e.kind)

entry_back : (e : Entry) → octet_of (kind_of e.kind) ≡ e.kind → entry_of (descriptor_of e) ≡ e
entry_back e q = λ i. record { code = e.code; own = e.own; kind = q i; explicit = e.explicit; simple = e.simple }

pub describes : {b : List ℕ} (w : ℕ) {r : Record} → Entered b (unpacked w) r → Describes b (descriptor_of (unpacked w)) r
describes {b} w {r} x = record { entered = subst (λ e. Entered b e r) (sym (entry_back (unpacked w) (entered_known x))) x }

-- the code alone is at the same place in both numbers
pub first_described : (w : ℕ) → (unpacked w).code ≡ (described w).code
unfolding described
first_described w = refl
