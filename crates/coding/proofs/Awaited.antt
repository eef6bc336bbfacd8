-- An item that begins nothing awaited is refused: with 24 as long as anything is awaited, else with 26; in a SEQUENCE, a SET, a list, under an
-- explicit tag, and in the message.
-- Assumes nothing.
use borrow.Author.Tests.{ne_eqb}
use mathlib.Core.Bool.{Bool, true, false, not, ◌&&◌, ◌||◌, true≢false}
use mathlib.Core.List.{List, [], ◌∷◌, ◌++◌}
use mathlib.Core.Option.{Option, some, none}
use mathlib.Core.Path.{◌≡◌, refl, sym, ap, ◌∙◌}
use native.Mathlib.Omega.{arith}
use Prim.Native.Nat.{ℕ, suc}
use lib.ListN.{length}
use Rattle.x690.specs.declared.ReadingCause.{ReadingCause}
use Rattle.x690.specs.declared.ReadingCause.TheVariants.{NotAwaited, Trailing}
use Rattle.octets.specs.Answer.{Answer, got, refused, then, if, none_left}
use Rattle.octets.specs.Lists.{any, same}
use Rattle.octets.proofs.Lists.{same_refl, same_true}
use Rattle.octets.proofs.Answer.{run}
use Rattle.octets.proofs.Tests.{test, or_false}
use Rattle.x690.specs.Reading.{read_identifier, Size, read_length, Mode, at_end, read_header, read_constructed, read_primitive}
use Rattle.x690.specs.Segments.{Kind, in_parts, in_either, read_carried}
use Rattle.table.specs.Syntax.{Member, Body, Plain, Sequence, Set, SequenceOf, SetOf, Choice, Table}
use Rattle.coding.specs.Content.{segmented}
use Rattle.coding.specs.Value.{Value, leaf}
use Rattle.coding.specs.Awaited.{further, awaited, not_yet_read, anything, Slotted, no_slot, a_slot, GoesOn, an_octet, no_end, begins, begins_item, begins_body}
use Rattle.coding.specs.Reading.{decode, passes, begun, not_awaited, unwanted, full, read_wrapped, read_sequence, place_member, read_set, read_many, choose, read_kind, read_value, read_message}

goes_on : {A : Type 0} {mode : Mode} {s : List ℕ} (f : List ℕ → Answer ReadingCause A) (x : Unit {0} → Answer ReadingCause A) → GoesOn mode s → at_end mode s f x ≡ x tt
unfolding at_end
goes_on f x an_octet = simp run
goes_on f x (no_end {b = b} h) = simp (run, ne_eqb b 0 (λ e. omega arith))

or_true : (a : Bool) → (a || true) ≡ true
or_true true = refl
or_true false = refl

or_none : (a : Bool) → (a || false) ≡ a
or_none true = refl
or_none false = refl

-- an answer that was refused, whatever it is of
refused_by : {A B : Type 0} (l : ℕ) (f : A → List ℕ → Answer ReadingCause B) (x : Answer ReadingCause (List ℕ)) → then (then {B = A} x (λ i r. refused NotAwaited l)) f ≡ then x (λ i r. refused NotAwaited l)
unfolding then
refused_by l f (got i r) = refl
refused_by l f (refused c k) = refl

refused_on : {A B : Type 0} (s : List ℕ) (f : A → List ℕ → Answer ReadingCause B) → then (not_awaited s) f ≡ not_awaited s
unfolding not_awaited
refused_on s f = refused_by (length s) f (read_identifier s)

cut_first : (f : ℕ → Bool) (b : Bool) (ts : List ℕ) → b ≡ true → any f (further b ts) ≡ false → any f ts ≡ false
cut_first f b ts q e = rw q at e

-- In a SEQUENCE, an item that begins nothing awaited: w says whether members were passed over since the last one read, and so are awaited too.
pub sequence_unwanted : (T : Table) (r : ℕ → List ℕ → Answer ReadingCause Value) (ms : List Member) (os : List (Option Value)) (w : Bool) (mode : Mode) (s : List ℕ) → GoesOn mode s
    → any (λ t. begun T t s) (awaited ms) ≡ false → read_sequence T r ms os w mode s ≡ unwanted (w || anything (awaited ms)) s
unfolding read_sequence awaited any anything unwanted
sequence_unwanted T r [] os w mode s g e = goes_on _ _ g ∙ rw (or_none w)
sequence_unwanted T r (m ∷ ms) os w mode s g e =
    let h = or_false (begun T m.type s) _ e in
    rw (or_true w)
    (test m.optional
    (λ q. simp (run, h.0, q) (sequence_unwanted T r ms (os ++ (none ∷ [])) true mode s g (cut_first (λ t. begun T t s) m.optional (awaited ms) q h.1)))
    (λ q. simp (run, h.0, q) (goes_on _ _ g)))

-- In a SET, an item that begins nothing awaited.
place_unwanted : (T : Table) (r : ℕ → List ℕ → Answer ReadingCause Value) {ms : List Member} {os : List (Option Value)} (s : List ℕ) → Slotted ms os
    → any (λ t. begun T t s) (not_yet_read ms os) ≡ false → place_member T r ms os s ≡ not_awaited s
unfolding place_member not_yet_read any
place_unwanted T r s no_slot e = refl
place_unwanted T r s (a_slot {m = m} {o = none} p) e =
    let h = or_false (begun T m.type s) _ e in
    simp (run, h.0, place_unwanted T r s p h.1) (refused_on s _)
place_unwanted T r s (a_slot {o = some v} p) e = rw (place_unwanted T r s p e) (refused_on s _)

full_anything : {ms : List Member} {os : List (Option Value)} → Slotted ms os → full os ≡ not (anything (not_yet_read ms os))
unfolding full not_yet_read anything
full_anything no_slot = refl
full_anything (a_slot {o = none} p) = refl
full_anything (a_slot {o = some v} p) = full_anything p

pub set_unwanted : (T : Table) (r : ℕ → List ℕ → Answer ReadingCause Value) (k : ℕ) (ms : List Member) (os : List (Option Value)) (mode : Mode) (s : List ℕ) → GoesOn mode s → Slotted ms os
    → any (λ t. begun T t s) (not_yet_read ms os) ≡ false → read_set T r (suc k) ms os mode s ≡ unwanted (anything (not_yet_read ms os)) s
unfolding read_set unwanted
set_unwanted T r k ms os mode s g p e = goes_on _ _ g ∙ by (anything (not_yet_read ms os)) (full_anything p) (place_unwanted T r s p e)
  where
    by : (b : Bool) → full os ≡ not b → place_member T r ms os s ≡ not_awaited s
        → if (full os) (refused Trailing (length s)) (λ _. then (place_member T r ms os s) λ us s₁. read_set T r k ms us mode s₁) ≡ unwanted b s
    by true f h = simp (run, f, h) (refused_on s _)
    by false f h = simp (run, f)

-- In a list an element is always awaited.
pub list_unwanted : (T : Table) (r : ℕ → List ℕ → Answer ReadingCause Value) (k t : ℕ) (mode : Mode) (vs : List Value) (s : List ℕ) → GoesOn mode s → begun T t s ≡ false
    → read_many T r (suc k) t mode vs s ≡ unwanted true s
unfolding read_many unwanted
list_unwanted T r k t mode vs s g e = goes_on _ _ g ∙ simp (run, e)

-- An item that has other identifier octets than the ones that are awaited.

same_false : (i j : List ℕ) → same j i ≡ false → same i j ≡ false
same_false i j e = test (same i j) (λ q. absurd (true≢false (sym (same_refl i) ∙ ap (λ (k : List ℕ). same k i) (same_true i j q) ∙ e))) λ q. q

header_unwanted : {A : Type 0} (i s : List ℕ) (f : Size → List ℕ → Answer ReadingCause A) → passes (λ j. same j i) (read_identifier s) ≡ false → then (read_header i s) f ≡ not_awaited s
unfolding read_header not_awaited passes then
header_unwanted i s f e = by (read_identifier s) e
  where
    by : (x : Answer ReadingCause (List ℕ)) → passes (λ j. same j i) x ≡ false
        → then (then x λ j s₁. if (not (same i j)) (refused NotAwaited (length s)) λ _. read_length (length s) s₁) f ≡ then x (λ j s₁. refused NotAwaited (length s))
    by (got j u) q = simp (run, same_false i j q)
    by (refused c l) q = refl

-- a string has them with either bit 6

passes_fails : (f g : List ℕ → Bool) (x : Answer ReadingCause (List ℕ)) → ((j : List ℕ) → f j ≡ false → g j ≡ false) → passes f x ≡ false → passes g x ≡ false
unfolding passes
passes_fails f g (got j u) h e = h j e
passes_fails f g (refused c l) h e = refl

primitive_unwanted : (i s : List ℕ) → passes (λ j. same j i) (read_identifier s) ≡ false → read_primitive i s ≡ not_awaited s
unfolding read_primitive
primitive_unwanted i s e = header_unwanted i s _ e

carried_unwanted : (k : Option Kind) (i s : List ℕ) → passes (λ j. same j i || (in_either k && same j (in_parts i))) (read_identifier s) ≡ false → read_carried k i s ≡ not_awaited s
unfolding read_carried
carried_unwanted none i s e = primitive_unwanted i s (passes_fails _ _ (read_identifier s) (λ j h. (or_false (same j i) _ h).0) e)
carried_unwanted (some k) i s e =
    let h = passes_fails _ (same (in_parts i)) (read_identifier s) (λ j h. same_false (in_parts i) j (or_false (same j i) _ h).1) e in
    simp (run, h) (primitive_unwanted i s (passes_fails _ _ (read_identifier s) (λ j h. (or_false (same j i) _ h).0) e))

-- the alternatives of a CHOICE

any_none : (ts : List ℕ) → any (λ t. false) ts ≡ false
unfolding any
any_none [] = refl
any_none (t ∷ ts) = any_none ts

any_begun : (T : Table) (ts s : List ℕ) → any (λ t. begun T t s) ts ≡ passes (λ j. any (λ t. begins T t j) ts) (read_identifier s)
unfolding begun passes
any_begun T ts s = by (read_identifier s)
  where
    by : (x : Answer ReadingCause (List ℕ)) → any (λ t. passes (begins T t) x) ts ≡ passes (λ j. any (λ t. begins T t j) ts) x
    by (got j u) = refl
    by (refused c l) = any_none ts

choose_unwanted : (T : Table) (r : ℕ → List ℕ → Answer ReadingCause Value) (ts : List ℕ) (n : ℕ) (s : List ℕ) → any (λ t. begun T t s) ts ≡ false → choose T r ts n s ≡ not_awaited s
unfolding choose any
choose_unwanted T r [] n s e = refl
choose_unwanted T r (t ∷ ts) n s e = let h = or_false (begun T t s) _ e in simp (run, h.0) (choose_unwanted T r ts (suc n) s h.1)

-- What begins a value: the next explicit tag, else the kind's own identifier octets, else what begins an alternative.
module _ (T : Table) (r : ℕ → List ℕ → Answer ReadingCause Value) (i : List ℕ) where
  pub item_unwanted : (is : List (List ℕ)) (b : Body) (s : List ℕ) → passes (λ j. begins_item (λ a. begins T a j) j is i b) (read_identifier s) ≡ false
      → read_wrapped is (read_kind T r i b) s ≡ not_awaited s
  unfolding read_wrapped read_kind read_constructed begins_item begins_body
  item_unwanted (e ∷ es) b s h = header_unwanted e s _ h
  item_unwanted [] (Plain k) s h = ap (λ (x : Answer ReadingCause (List ℕ)). then x λ c s₁. then (decode k (length s) c s₁) λ y s₂. got (leaf y) s₂) (carried_unwanted (segmented k) i s h) ∙ refused_on s _
  item_unwanted [] (Sequence ms) s h = header_unwanted i s _ h
  item_unwanted [] (Set ms) s h = header_unwanted i s _ h
  item_unwanted [] (SequenceOf t) s h = header_unwanted i s _ h
  item_unwanted [] (SetOf t) s h = header_unwanted i s _ h
  item_unwanted [] (Choice ts) s h = choose_unwanted T r ts 0 s (any_begun T ts s ∙ h)

-- Under an explicit tag its one item is awaited, and behind it nothing.

abbrev pub under_tag : {A : Type 0} → (List ℕ → Answer ReadingCause A) → Mode → List ℕ → Answer ReadingCause A
under_tag r mode u =
    at_end mode u (λ _. refused NotAwaited (length u)) λ _.
    then (r u) λ v w.
    at_end mode w (λ y. got v y) λ _. refused Trailing (length w)

pub wrapped_under : {A : Type 0} (i : List ℕ) (is : List (List ℕ)) (r : List ℕ → Answer ReadingCause A) (s : List ℕ) → read_wrapped (i ∷ is) r s ≡ read_constructed i (under_tag (read_wrapped is r)) s
unfolding read_wrapped
wrapped_under i is r s = refl

pub tag_unwanted : {A : Type 0} (r : List ℕ → Answer ReadingCause A) (mode : Mode) (u : List ℕ) → GoesOn mode u → r u ≡ not_awaited u → under_tag r mode u ≡ unwanted true u
unfolding unwanted
tag_unwanted r mode u g e = goes_on _ _ g ∙ rw e (refused_on u _)

pub tag_trailing : {A : Type 0} (r : List ℕ → Answer ReadingCause A) (mode : Mode) (u : List ℕ) (v : A) (w : List ℕ) → GoesOn mode u → GoesOn mode w → r u ≡ got v w → under_tag r mode u ≡ unwanted false w
unfolding unwanted
tag_trailing r mode u v w g h e = goes_on _ _ g ∙ rw e (simp run (goes_on _ _ h))

-- In the message the root is awaited, and behind it nothing.

pub message_unwanted : (T : Table) (n t : ℕ) (b : ℕ) (s : List ℕ) → begun T t (b ∷ s) ≡ false → read_message T n t (b ∷ s) ≡ unwanted true (b ∷ s)
unfolding read_message unwanted
message_unwanted T n t b s e = simp (run, e)

pub message_trailing : (T : Table) (n t : ℕ) (s : List ℕ) (v : Value) (b : ℕ) (r : List ℕ) → none_left s ≡ false → begun T t s ≡ true → read_value T n t s ≡ got v (b ∷ r)
    → read_message T n t s ≡ unwanted false (b ∷ r)
unfolding read_message unwanted
message_trailing T n t s v b r q h e = simp (run, q, h, e)
