-- What is in hand while items are read: each value at a place of its own, so that the octets of the value they make are those of its node and theirs.
-- Assumes nothing.
use lib.ListN.{length, get_or, drop, set as set_at, length-append, length-set, length-drop}
use lib.Seq.{drop-set-lt, get_or-drop}
use mathlib.Core.Bool.{Bool, true, false, true≢false}
use mathlib.Core.List.{List, [], ◌∷◌, ◌++◌}
use mathlib.Core.Option.{Option, some, none, none-ne-some}
use mathlib.Core.Path.{◌≡◌, refl, sym, ap, ◌∙◌}
use native.Mathlib.Nat.{add-zero, zero-add}
use native.Mathlib.Omega.{arith}
use Prim.Native.Nat.{ℕ, zero, suc, ◌+◌, ◌≤◌, ◌<◌}
use Rattle.table.specs.Syntax.{Member, Plain, Sequence, Set, SequenceOf, SetOf, Choice}
use Rattle.coding.specs.Value.{Value, slots, bag, octets, slot_octets, presence}
use Rattle.coding.specs.Reading.{nothing}
use Rattle.reader.specs.Items.{Holder, inside, message, manner, parts_of, Placed, following, noted, is_single, Hand, filled, values, only}
use Rattle.reader.specs.Items.{assemble, node_size, sizes_of, blank}
use Rattle.reader.proofs.Items.{drop_later, Found}
use Rattle.reader.proofs.ItemsInTurn.{filled_snoc, filled_length, nothing_length}
use Rattle.reader.proofs.ItemsEachOnce.{CameAs, no_more, vacant, taken, came_none, came_set}
use Rattle.reader.proofs.ItemsKinds.{blank_clear}

pub sizes_snoc : (hand : Hand) (x : ℕ × Value) → sizes_of (hand ++ (x ∷ [])) ≡ sizes_of hand + length (octets x.1)
unfolding sizes_of
sizes_snoc [] x = omega arith
sizes_snoc (y ∷ hand) x = rw (sizes_snoc hand x) (omega arith)

-- the places are those of missing members, and no two are the same
unfoldable pub Fits : Hand → List (Option Value) → Type 0
Fits [] os = Unit {0}
Fits (x ∷ hand) os = (x.0 < length os) × (get_or os x.0 none ≡ none) × Fits hand (set_at os x.0 (some x.1))

pub fits_snoc : (hand : Hand) (os : List (Option Value)) (p : ℕ) (v : Value) → p < length os → get_or (filled hand os) p none ≡ none → Fits hand os
    → Fits (hand ++ ((p, v) ∷ [])) os
unfolding Fits filled
fits_snoc [] os p v l e f = (l, e, tt)
fits_snoc (x ∷ hand) os p v l e f = (f.0, f.1, fits_snoc hand (set_at os x.0 (some x.1)) p v (rw length-set l) e f.2)

-- sizes of members
abbrev sizes_in : List (Option Value) → ℕ
sizes_in os = length (slot_octets (slots os))

sizes_set : (os : List (Option Value)) (p : ℕ) (v : Value) → p < length os → get_or os p none ≡ none
    → sizes_in (set_at os p (some v)) ≡ sizes_in os + length (octets v)
unfolding slots slot_octets
sizes_set [] p v l e = absurd (omega arith)
sizes_set (none ∷ os) zero v l e = length-append (octets v) (slot_octets (slots os)) ∙ omega arith
sizes_set (none ∷ os) (suc p) v l e = sizes_set os p v (omega arith) e
sizes_set (some u ∷ os) zero v l e = absurd (none-ne-some u (sym e))
sizes_set (some u ∷ os) (suc p) v l e =
    length-append (octets u) (slot_octets (slots (set_at os p (some v))))
    ∙ rw (sizes_set os p v (omega arith) e) (omega (arith, length-append (octets u) (slot_octets (slots os))))

sizes_filled : (hand : Hand) (os : List (Option Value)) → Fits hand os → sizes_in (filled hand os) ≡ sizes_in os + sizes_of hand
unfolding filled sizes_of Fits
sizes_filled [] os f = omega arith
sizes_filled (x ∷ hand) os f =
    sizes_filled hand (set_at os x.0 (some x.1)) f.2 ∙ rw (sizes_set os x.0 x.1 f.0 f.1) (omega arith)

sizes_nothing : (ms : List Member) → sizes_in (nothing ms) ≡ 0
unfolding nothing slots slot_octets
sizes_nothing [] = refl
sizes_nothing (m ∷ ms) = sizes_nothing ms

pub presence_length : (os : List (Option Value)) → length (presence (slots os)) ≡ length os
unfolding presence slots
presence_length [] = refl
presence_length (none ∷ os) = ap suc (presence_length os)
presence_length (some v ∷ os) = ap suc (presence_length os)

sizes_bag : (hand : Hand) → length (slot_octets (bag (values hand))) ≡ sizes_of hand
unfolding bag slot_octets sizes_of
sizes_bag [] = refl
sizes_bag (x ∷ hand) = length-append (octets x.1) (slot_octets (bag (values hand))) ∙ rw (sizes_bag hand) refl

members_size : (ms : List Member) (hand : Hand) → Fits hand (nothing ms)
    → let o = slots (filled hand (nothing ms)) in length (presence o ++ slot_octets o) ≡ length ms + sizes_of hand
members_size ms hand f =
    let F = filled hand (nothing ms) in
    length-append (presence (slots F)) (slot_octets (slots F))
    ∙ rw (presence_length F, filled_length hand (nothing ms), nothing_length ms, sizes_filled hand (nothing ms) f, sizes_nothing ms) (omega arith)

-- what is in hand makes a value: each at its own place; one only in a CHOICE and a message
unfoldable pub Apt : Holder → Hand → Type 0
Apt (inside (Plain k)) hand = ⊥
Apt (inside (Sequence ms)) hand = Fits hand (nothing ms)
Apt (inside (Set ms)) hand = Fits hand (nothing ms)
Apt (inside (SequenceOf t)) hand = Unit {0}
Apt (inside (SetOf t)) hand = Unit {0}
Apt (inside (Choice ts)) hand = length hand ≡ 1
Apt (message t) hand = length hand ≡ 1

one_size : (hand : Hand) → length hand ≡ 1 → length (octets (only hand).1) ≡ sizes_of hand
unfolding only sizes_of
one_size [] e = absurd (omega arith)
one_size (x ∷ []) e = omega arith
one_size (x ∷ y ∷ hand) e = absurd (omega arith)

pub assemble_size : (h : Holder) (hand : Hand) → Apt h hand → length (octets (assemble h hand)) ≡ node_size h + sizes_of hand
unfolding Apt assemble node_size octets
assemble_size (inside (Plain k)) hand f = absurd f
assemble_size (inside (Sequence ms)) hand f = rw (members_size ms hand f) (omega arith)
assemble_size (inside (Set ms)) hand f = rw (members_size ms hand f) (omega arith)
assemble_size (inside (SequenceOf t)) hand f = rw (sizes_bag hand) (omega arith)
assemble_size (inside (SetOf t)) hand f = rw (sizes_bag hand) (omega arith)
assemble_size (inside (Choice ts)) hand f = rw (one_size hand f) (omega arith)
assemble_size (message t) hand f = rw (one_size hand f) (omega arith)

-- what holds of what is in hand while items are read, from the j-th part on and with the notes `came`
unfoldable pub SoFar : Holder → ℕ → List ℕ → Hand → Type 0
SoFar (inside (Plain k)) j came hand = ⊥
SoFar (inside (Sequence ms)) j came hand = Fits hand (nothing ms) × (drop j (filled hand (nothing ms)) ≡ drop j (nothing ms))
SoFar (inside (Set ms)) j came hand = Fits hand (nothing ms) × CameAs came 0 ms (filled hand (nothing ms)) × (length ms ≤ length came)
SoFar (inside (SequenceOf t)) j came hand = Unit {0}
SoFar (inside (SetOf t)) j came hand = Unit {0}
SoFar (inside (Choice ts)) j came hand = length hand ≡ 0
SoFar (message t) j came hand = length hand ≡ 0

unfoldable pub is_plain : Holder → Bool
is_plain (inside (Plain k)) = true
is_plain (inside (Sequence ms)) = false
is_plain (inside (Set ms)) = false
is_plain (inside (SequenceOf t)) = false
is_plain (inside (SetOf t)) = false
is_plain (inside (Choice ts)) = false
is_plain (message t) = false

pub sofar_none : (h : Holder) → is_plain h ≡ false → length (parts_of h) ≤ 16 → SoFar h 0 blank []
unfolding SoFar is_plain parts_of Fits filled
sofar_none (inside (Plain k)) p few = absurd (true≢false p)
sofar_none (inside (Sequence ms)) p few = (tt, refl)
sofar_none (inside (Set ms)) p few = (tt, came_none blank blank_clear 0 ms, few)
sofar_none (inside (SequenceOf t)) p few = tt
sofar_none (inside (SetOf t)) p few = tt
sofar_none (inside (Choice ts)) p few = refl
sofar_none (message t) p few = refl

-- contents that are over
pub sofar_over : (h : Holder) (j : ℕ) (came : List ℕ) (hand : Hand) → is_single (manner h) ≡ false → SoFar h j came hand → Apt h hand
unfolding SoFar Apt is_single manner
sofar_over (inside (Plain k)) j came hand e f = f
sofar_over (inside (Sequence ms)) j came hand e f = f.0
sofar_over (inside (Set ms)) j came hand e f = f.0
sofar_over (inside (SequenceOf t)) j came hand e f = tt
sofar_over (inside (SetOf t)) j came hand e f = tt
sofar_over (inside (Choice ts)) j came hand e f = absurd (true≢false e)
sofar_over (message t) j came hand e f = absurd (true≢false e)

-- the one item of a CHOICE or a message
pub sofar_one : (h : Holder) (j : ℕ) (came : List ℕ) (hand : Hand) (x : ℕ × Value) → is_single (manner h) ≡ true → SoFar h j came hand → Apt h (hand ++ (x ∷ []))
unfolding SoFar Apt is_single manner
sofar_one (inside (Plain k)) j came hand x e f = f
sofar_one (inside (Sequence ms)) j came hand x e f = absurd (true≢false (sym e))
sofar_one (inside (Set ms)) j came hand x e f = absurd (true≢false (sym e))
sofar_one (inside (SequenceOf t)) j came hand x e f = tt
sofar_one (inside (SetOf t)) j came hand x e f = tt
sofar_one (inside (Choice ts)) j came hand x e f = length-append hand (x ∷ []) ∙ rw f refl
sofar_one (message t) j came hand x e f = length-append hand (x ∷ []) ∙ rw f refl

nothing_none : (ms : List Member) (p : ℕ) → get_or (nothing ms) p none ≡ none
unfolding nothing
nothing_none [] p = refl
nothing_none (m ∷ ms) zero = refl
nothing_none (m ∷ ms) (suc p) = nothing_none ms p

-- at a place that has not come nothing is in hand
later_none : (ms : List Member) (F : List (Option Value)) (j p : ℕ) → j ≤ p → drop j F ≡ drop j (nothing ms) → get_or F p none ≡ none
later_none ms F j p h e =
    let q : p + 0 ≡ p = omega arith in
    let f = drop_later F (nothing ms) j p h e in
    rw (← q, ← get_or-drop p F 0 none, f, get_or-drop p (nothing ms) 0 none) (nothing_none ms (p + 0))

came_free : (came : List ℕ) {k : ℕ} {ms : List Member} {os : List (Option Value)} (i : ℕ) → CameAs came k ms os → get_or came (k + i) 0 ≡ 0
    → get_or os i none ≡ none
came_free came i no_more e = refl
came_free came zero (vacant f d) e = refl
came_free came {k} zero (taken f d) e = absurd (f (rw (add-zero k) at e))
came_free came {k} (suc i) (vacant f d) e = let q : suc k + i ≡ k + suc i = omega arith in came_free came i d (rw q e)
came_free came {k} (suc i) (taken f d) e = let q : suc k + i ≡ k + suc i = omega arith in came_free came i d (rw q e)

found_low : (came : List ℕ) (j : ℕ) (ms : List Member) (x : Placed) → Found came j (drop j ms) x → (j ≤ x.0) × (x.0 < length ms)
found_low came j ms x y = let e = y.place in let l = y.low in (omega arith, omega (arith, length-drop j ms))

-- one item more
pub sofar_turn : (h : Holder) (j : ℕ) (came : List ℕ) (hand : Hand) (x : Placed) (v : Value) → is_single (manner h) ≡ false
    → Found came j (drop j (parts_of h)) x → SoFar h j came hand
    → SoFar h (following (manner h) x.0) (noted (manner h) came x.0) (hand ++ ((x.0, v) ∷ []))
unfolding SoFar is_single manner following noted parts_of
sofar_turn (inside (Plain k)) j came hand x v e y f = f
sofar_turn (inside (Sequence ms)) j came hand x v e y f =
    let l = found_low came j ms x y in
    let F = filled hand (nothing ms) in (
      fits_snoc hand (nothing ms) x.0 v (rw (nothing_length ms) l.1) (later_none ms F j x.0 l.0 f.1) f.0,
      rw (filled_snoc hand x.0 v (nothing ms), drop-set-lt (suc x.0) F x.0 (some v) (omega arith))
          (drop_later F (nothing ms) j (suc x.0) (omega (arith, l.0)) f.1),
    )
sofar_turn (inside (Set ms)) j came hand x v e y f =
    let l = found_low came j ms x y in
    let z = l.1 in
    let w = f.2 in
    let F = filled hand (nothing ms) in (
      fits_snoc hand (nothing ms) x.0 v (rw (nothing_length ms) z) (came_free came x.0 f.1 (rw zero-add y.free)) f.0,
      rw (filled_snoc hand x.0 v (nothing ms)) (came_set came x.0 x.0 v (omega arith) z (omega arith) f.1),
      rw length-set w,
    )
sofar_turn (inside (SequenceOf t)) j came hand x v e y f = tt
sofar_turn (inside (SetOf t)) j came hand x v e y f = tt
sofar_turn (inside (Choice ts)) j came hand x v e y f = absurd (true≢false e)
sofar_turn (message t) j came hand x v e y f = absurd (true≢false e)
