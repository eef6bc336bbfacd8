-- What reading items leaves: an end of what was given, and nothing of closed contents; and no more octets stand at the place of a refusal.
-- Assumes nothing.
use lib.ListN.{length, drop, length-append, length-drop}
use lib.Seq.{drop-drop, drop-length, drop-append_seam}
use mathlib.Core.Bool.{Bool, true, false, not, true≢false}
use mathlib.Core.List.{List, [], ◌∷◌, ◌++◌}
use mathlib.Core.Option.{Option, some, none}
use mathlib.Core.Path.{◌≡◌, refl, sym, ap, ◌∙◌}
use native.Mathlib.Omega.{arith}
use Prim.Native.Nat.{ℕ, zero, suc, ◌+◌, ◌-◌, ◌≤◌, ◌<◌}
use Rattle.std.specs.Prelude.{Err}
use Rattle.x690.specs.declared.ReadingCause.{ReadingCause}
use Rattle.x690.specs.declared.ReadingCause.TheVariants.{NotAwaited}
use Rattle.octets.specs.Answer.{Answer, got, refused, then, if, none_left}
use Rattle.octets.specs.Permutations.{as_given}
use Rattle.octets.proofs.Answer.{Holds, Taken, got_holds}
use Rattle.x690.specs.Reading.{Mode, closed, open_ended, read_identifier}
use Rattle.x690.specs.Reading.{at_end}
use Rattle.ber.specs.Told.{told_identifier}
use Rattle.ber.proofs.Told.{identifier_refused}
use Rattle.table.specs.Syntax.{Table}
use Rattle.coding.specs.Value.{Value}
use Rattle.coding.specs.Encodes.{EncodesAt}
use Rattle.coding.specs.Reading.{not_awaited, read_value}
use Rattle.coding.proofs.Refusals.{Within, names, value_says}
use Rattle.coding.proofs.Sound.{value_sound}
use Rattle.reader.specs.Items.{Holder, manner, Placed, remains, lacks, following, noted, is_single, Hand, read_part, next}
use Rattle.reader.specs.Items.{read_items, blank, read_held}

-- u is an end of s
abbrev pub Tail : List ℕ → List ℕ → Type 0
Tail s u = (k : ℕ) × (k ≤ length s) × (u ≡ drop k s)

tail_of : (s : List ℕ) {u : List ℕ} (p : List ℕ) → s ≡ p ++ u → Tail s u
tail_of s {u} p e = (length p, omega (arith, ap length e, length-append p u), sym (ap (drop (length p)) e ∙ drop-append_seam p u))

tail_on : (s t u : List ℕ) → Tail s t → Tail t u → Tail s u
tail_on s t u (k, h, e) (i, l, f) =
    (k + i, omega (arith, ap length e, length-drop k s), f ∙ ap (drop i) e ∙ drop-drop i k s)

pub tail_less : {s u : List ℕ} → Tail s u → length u ≤ length s
tail_less {s} {u} (k, h, e) = omega (arith, ap length e, length-drop k s)

-- the end that is as long
pub tail_at : (s u : List ℕ) → Tail s u → u ≡ drop (length s - length u) s
tail_at s u (k, h, e) =
    let q : length s - length u ≡ k = omega (arith, ap length e, length-drop k s) in
    rw q e

pub not_none : (s : List ℕ) → (length s ≡ 0 → ⊥) → none_left s ≡ false
unfolding none_left
not_none [] h = absurd (h refl)
not_none (x ∷ s) h = refl

pub some_left : (s : List ℕ) → none_left s ≡ false → 0 < length s
unfolding none_left
some_left [] h = absurd (true≢false h)
some_left (b ∷ s) h = omega arith

-- What was read leaves an end of what was given, of which P holds; or no more octets are left at the place of a refusal than were given.
pub data Sane {A : Type 0} (P : List ℕ → Type 0) (s : List ℕ) : Answer ReadingCause A → Type 0 where
  leaves : {a : A} {u : List ℕ} → Tail s u → P u → Sane P s (got a u)
  stops : {c : ReadingCause} {l : ℕ} → l ≤ length s → Sane P s (refused c l)

module _ {A : Type 0} {P : List ℕ → Type 0} where
  sane_wider : (s t : List ℕ) → Tail s t → {x : Answer ReadingCause A} → Sane P t x → Sane P s x
  sane_wider s t h (leaves {u = u} i p) = leaves (tail_on s t u h i) p
  sane_wider s t h (stops {l = l} i) = stops {l = l} (omega (arith, tail_less h))

  sane_if : (s : List ℕ) (b : Bool) {x : Answer ReadingCause A} {y : Unit {0} → Answer ReadingCause A} → (b ≡ true → Sane P s x) → (b ≡ false → (u : Unit {0}) → Sane P s (y u))
      → Sane P s (if b x y)
  unfolding if
  sane_if s true h k = h refl
  sane_if s false h k = k refl tt

  sane_then : {B : Type 0} {Q : List ℕ → Type 0} (s : List ℕ) {x : Answer ReadingCause B} {f : B → List ℕ → Answer ReadingCause A} → Sane Q s x
      → ((a : B) (u : List ℕ) → Tail s u → Q u → Sane P s (f a u)) → Sane P s (then x f)
  unfolding then
  sane_then s (leaves {a = a} {u = u} h q) k = k a u h q
  sane_then s (stops {l = l} h) k = stops {l = l} h

  sane_end : (k : Mode) (s : List ℕ) {f : List ℕ → Answer ReadingCause A} {x : Unit {0} → Answer ReadingCause A}
      → ((u : List ℕ) → Tail s u → (k ≡ closed → u ≡ []) → Sane P s (f u))
      → ((u : Unit {0}) → Sane P s (x u)) → Sane P s (at_end k s f x)
  unfolding at_end
  sane_end closed s h i = sane_if s _ (λ e. h [] (length s, omega arith, sym (drop-length s)) (λ _. refl)) λ e. i
  sane_end open_ended s h i =
      sane_if s _ (λ e. stops {l = 0} (omega arith)) λ e _.
      sane_if s _ (λ e. i tt) λ e _.
      sane_if s _ (λ e. stops {l = length s} (omega arith)) λ f _.
      sane_if s _ (λ e. stops {l = length s} (omega arith)) λ g _.
      h (drop 2 s) (2, omega (arith, some_left (drop 1 s) f, length-drop 1 s), refl) λ q. absurd (open_not q)
    where
      open_not : open_ended ≡ closed → ⊥
      open_not q = let z : ◌≡◌ {A = ℕ} 0 1 = cc in omega arith

-- an item that is not awaited, and a value
unawaited_sane : {A : Type 0} {P : List ℕ → Type 0} (s : List ℕ) → Sane {A = A} P s (not_awaited s)
unfolding not_awaited then told_identifier
unawaited_sane {A} {P} s = go (read_identifier s) refl
  where
    go : (x : Answer ReadingCause (List ℕ)) → read_identifier s ≡ x → Sane {A = A} P s (then x λ i s₁. refused NotAwaited (length s))
    go (got i u) e = stops {l = length s} (omega arith)
    go (refused c l) e =
        let q : Err c ≡ told_identifier (length s) (read_identifier s) = rw e refl in
        let y = identifier_refused s (Err c) q c refl in
        let z : ◌≡◌ {A = Answer ReadingCause (List ℕ)} (refused c l) (refused c (length s)) = sym e ∙ y in
        let v : l ≡ length s = cc in
        stops {l = l} (omega arith)

abbrev Any : List ℕ → Type 0
Any u = Unit {0}

value_sane : (T : Table) (n t : ℕ) (s : List ℕ) → Sane Any s (read_value T n t s)
value_sane T n t s = go (read_value T n t s) (value_sound as_given T n t s) (value_says T n t s)
  where
    few : {c : ReadingCause} {l : ℕ} → Within {A = Value} (length s) (refused c l) → l ≤ length s
    few (names h) = h

    go : (x : Answer ReadingCause Value) → Holds (Taken (EncodesAt as_given T n t) s) x → Within (length s) x → Sane Any s x
    go (got v u) h k = let y = got_holds h refl in leaves (tail_of s y.piece y.cut) tt
    go (refused c l) h k = stops {l = l} (few k)

-- items: closed contents of which they are all leave nothing
module _ (T : Table) (n : ℕ) (h : Holder) where
  abbrev pub Closes : Mode → List ℕ → Type 0
  Closes k u = is_single (manner h) ≡ false → k ≡ closed → u ≡ []

  part_sane : (x : Option Placed) (s : List ℕ) → Sane Any s (read_part T (read_value T n) x s)
  unfolding read_part
  part_sane none s = unawaited_sane s
  part_sane (some x) s = sane_then s (value_sane T n x.1.type s) λ v u t _. leaves t tt

  items_sane : (k j : ℕ) (came : List ℕ) (hand : Hand) (e : Mode) (s : List ℕ) → Sane (Closes e) s (read_items T (read_value T n) h k j came hand e s)
  unfolding read_items
  items_sane zero j came hand e s = stops {l = length s} (omega arith)
  items_sane (suc k) j came hand e s =
      sane_if s (is_single (manner h))
      (λ one. sane_then s (part_sane (next T h j came s) s) λ x u t _. leaves t λ many. absurd (true≢false (sym one ∙ many)))
      λ many _.
      sane_end e s
      (λ u t q. sane_if s (lacks h j came) (λ f. stops {l = length s} (omega arith)) λ f _. leaves t λ _. q)
      λ _.
      sane_if s (not (remains h j came)) (λ f. stops {l = length s} (omega arith)) λ f _.
      sane_then s (part_sane (next T h j came s) s) λ x u t _.
      sane_wider s u t (items_sane k (following (manner h) x.0) (noted (manner h) came x.0) (hand ++ (x ∷ [])) e u)

  pub held_sane : (e : Mode) (s : List ℕ) → Sane (Closes e) s (read_held T (read_value T n) h e s)
  unfolding read_held
  held_sane e s = sane_then s (items_sane (suc (length s)) 0 blank [] e s) λ hand u t q. leaves t q
