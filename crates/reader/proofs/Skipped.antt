-- What is read is passed over by its headers: the item of a value that is read ends where its headers say.
-- Assumes nothing.
use borrow.Author.Tests.{ne_eqb}
use mathlib.Core.Bool.{Bool, true, false, false≢true}
use mathlib.Core.List.{List, [], ◌∷◌, ◌++◌}
use mathlib.Core.Option.{Option, some, none}
use mathlib.Core.Path.{◌≡◌, refl}
use native.Mathlib.Nat.{zero-add, suc-add}
use native.Mathlib.Omega.{arith}
use Prim.Native.Nat.{ℕ, zero, suc, ◌+◌}
use lib.ListN.{length, take, drop}
use Rattle.x690.specs.declared.ReadingCause.{ReadingCause}
use Rattle.octets.specs.Answer.{Answer, got, refused, then, if, none_left}
use Rattle.octets.proofs.Answer.{Holds, yields, refuses, then_holds, map_holds, behind_holds, if_holds, got_holds}
use Rattle.x690.specs.Reading.{read_identifier, Size, definite, indefinite, read_length, open_ended, closed, at_end, read_header, inside, read_constructed}
use Rattle.x690.specs.Reading.{contents, read_primitive}
use Rattle.x690.specs.Segments.{Kind, segment_tag, in_parts, deepest, Gathered, read_joined, read_segment, read_carried}
use Rattle.x690.proofs.Identifiers.{identifier_sound}
use Rattle.x690.proofs.Items.{Ends, mark, at_end_holds}
use Rattle.table.specs.Syntax.{Member, Body, Plain, Sequence, Set, SequenceOf, SetOf, Choice, Table}
use Rattle.coding.specs.Content.{segmented}
use Rattle.coding.specs.Value.{Value}
use Rattle.coding.specs.Reading.{passes, begun, unwanted, nothing, read_wrapped, read_sequence, place_member, read_set, read_many, choose, read_body, read_kind}
use Rattle.coding.specs.Reading.{read_value}
use Rattle.coding.proofs.Content.{content_sound}
use Rattle.coding.specs.Tags.{own_tag, explicit}
use Rattle.coding.specs.Awaited.{begins}
use Rattle.coding.specs.Awaited.{GoesOn, no_end}
use Rattle.coding.proofs.FirstTags.{Good, proper_begun}
use Rattle.coding.proofs.Sound.{not_awaited_lem}
use Rattle.ber.specs.Skipping.{headed, Passed, behind_all, closes, jumps, opens}

-- an item at the front of s is passed over, and w is left
pub data Skips : List ℕ → List ℕ → Type 0 where
  sized : {n : ℕ} {s r : List ℕ} → headed s ≡ got (definite n) r → Skips s (drop n r)
  unsized : {s r w : List ℕ} → headed s ≡ got indefinite r → Passed 1 r w → Skips s w

-- an answer is what it is
itself : {A : Type 0} (x : Answer ReadingCause A) → Holds (λ a r. x ≡ got a r) x
itself (got a r) = yields refl
itself (refused c l) = refuses

-- the ends of indefinite items, one behind the other
pass_on : {j k : ℕ} {s t w : List ℕ} → Passed j s t → Passed k t w → Passed (j + k) s w
pass_on {k = k} behind_all q = rw zero-add q
pass_on {k = k} (closes p) q = rw suc-add (closes (pass_on p q))
pass_on {k = k} (jumps h e p) q = rw suc-add (jumps h e (rw suc-add at (pass_on p q)))
pass_on {k = k} (opens h e p) q = rw suc-add (opens h e (rw (suc-add, suc-add) at (pass_on p q)))

-- an item in an indefinite one, and what follows it
item_then : {k : ℕ} {s t w : List ℕ} → GoesOn open_ended s → Skips s t → Passed (suc k) t w → Passed (suc k) s w
item_then (no_end h) (sized e) p = jumps h e p
item_then {k = k} (no_end h) (unsized e q) p = let f : 1 + suc k ≡ suc (suc k) = omega arith in opens h e (rw f at (pass_on q p))

ended : {s u : List ℕ} → Ends open_ended s u → Passed 1 s u
ended mark = closes behind_all

open_end_lem : {A : Type 0} {P : A → List ℕ → Type 0} (s : List ℕ) {f : List ℕ → Answer ReadingCause A} {x : Unit {0} → Answer ReadingCause A} → ((u : List ℕ) → Ends open_ended s u → Holds P (f u))
    → (GoesOn open_ended s → (u : Unit {0}) → Holds P (x u)) → Holds P (at_end open_ended s f x)
unfolding at_end if none_left
open_end_lem [] h k = refuses
open_end_lem (zero ∷ []) h k = refuses
open_end_lem (zero ∷ zero ∷ s) h k = h s mark
open_end_lem (zero ∷ suc c ∷ s) h k = rw (ne_eqb (suc c) 0 (λ e. omega arith)) refuses
open_end_lem (suc b ∷ s) h k = rw (ne_eqb (suc b) 0 (λ e. omega arith)) (k (no_end (omega arith)) tt)

passes_got : (f : List ℕ → Bool) (x : Answer ReadingCause (List ℕ)) → passes f x ≡ true → (i : List ℕ) × (w : List ℕ) × (x ≡ got i w) × (f i ≡ true)
unfolding passes
passes_got f (got i w) e = (i, w, refl, e)
passes_got f (refused c l) e = absurd (false≢true e)

-- an item that begins a value of a table that passed is no end
begun_on : (T : Table) → Good T → (t : ℕ) (s : List ℕ) → begun T t s ≡ true → GoesOn open_ended s
unfolding begun
begun_on T good t s e =
    let (i, w, x, y) = passes_got (begins T t) (read_identifier s) e in
    let b = proper_begun ((good t).first i y) in
    rw (got_holds (identifier_sound s) x, b.is) (no_end b.not_zero)

header_headed : (i s : List ℕ) → Holds (λ z r. headed s ≡ got z r) (read_header i s)
unfolding read_header headed then
header_headed i s =
    then_holds (itself (read_identifier s)) λ j s₁ e.
    if_holds _ (λ q. refuses) λ q _.
    map_holds (itself (read_length (length s) s₁)) λ z r f. rw e f

-- contents that read as they should, in an indefinite item
abbrev Inner : {A : Type 0} → (List ℕ → Answer ReadingCause A) → Type 0
Inner f = (s : List ℕ) → Holds (λ v w. Passed 1 s w) (f s)

abbrev Outer : {A : Type 0} → (List ℕ → Answer ReadingCause A) → Type 0
Outer f = (s : List ℕ) → Holds (λ v w. Skips s w) (f s)

inside_skips : {A : Type 0} (body : _ → List ℕ → Answer ReadingCause A) → Inner (body open_ended) → (s : List ℕ) (z : Size) (r : List ℕ) → headed s ≡ got z r
    → Holds (λ v w. Skips s w) (inside body z r)
unfolding inside
inside_skips body f s (definite n) r e = then_holds (behind_holds _ (itself (body closed (take n r)))) λ v u x. yields (sized e)
inside_skips body f s indefinite r e = map_holds (f r) λ v w x. unsized e x

constructed_skips : {A : Type 0} (i : List ℕ) (body : _ → List ℕ → Answer ReadingCause A) → Inner (body open_ended) → Outer (read_constructed i body)
unfolding read_constructed
constructed_skips i body f s = then_holds (header_headed i s) (inside_skips body f s)

contents_skips : (l : ℕ) (s : List ℕ) (z : Size) (r : List ℕ) → headed s ≡ got z r → Holds (λ c w. Skips s w) (contents l z r)
unfolding contents
contents_skips l s (definite n) r e = yields (sized e)
contents_skips l s indefinite r e = refuses

primitive_skips : (i : List ℕ) → Outer (read_primitive i)
unfolding read_primitive
primitive_skips i s = then_holds (header_headed i s) (contents_skips _ s)

-- a string in segments is passed over by its header, or by theirs
joined_skips : (k : Kind) (r : List ℕ → Answer ReadingCause Gathered) → Outer r → (n : ℕ) (c : List ℕ) (b : ℕ) → Inner (read_joined k r n c b open_ended)
unfolding read_joined
joined_skips k r f zero c b s = refuses
joined_skips k r f (suc n) c b s =
    open_end_lem s (λ u h. yields (ended h)) λ g _.
    then_holds (itself (read_identifier s)) λ i s₁ e.
    if_holds _ (λ q. refuses) λ q _.
    if_holds _ (λ q. refuses) λ q _.
    then_holds (f s) λ d s₂ x.
    map_holds (joined_skips k r f n _ _ s₂) λ d w y. item_then g x y

segment_skips : (k : Kind) (d : ℕ) → Outer (read_segment k d)
unfolding read_segment
segment_skips k zero s = refuses
segment_skips k (suc d) s =
    if_holds _ (λ e. constructed_skips (segment_tag k true) _ (λ u. joined_skips k (read_segment k d) (segment_skips k d) _ _ _ u) s) λ e _.
    then_holds (primitive_skips (segment_tag k false) s) λ c u x.
    if_holds _ (λ q. refuses) λ q _. yields x

carried_skips : (k : Option Kind) (i : List ℕ) → Outer (read_carried k i)
unfolding read_carried
carried_skips none i s = primitive_skips i s
carried_skips (some k) i s =
    if_holds _
    (λ e.
    then_holds (constructed_skips (in_parts i) _ (λ u. joined_skips k (read_segment k deepest) (segment_skips k deepest) _ _ _ u) s) λ g u x. yields x)
    λ e _. primitive_skips i s

wrapped_skips : {A : Type 0} (is : List (List ℕ)) (r : List ℕ → Answer ReadingCause A) → Outer r → Outer (read_wrapped is r)
unfolding read_wrapped
wrapped_skips [] r f s = f s
wrapped_skips (i ∷ is) r f s =
    constructed_skips i _
    (λ u. open_end_lem u (λ y z. refuses) λ g _.
    then_holds (wrapped_skips is r f u) λ v w x.
    at_end_holds open_ended w (λ y z. yields (item_then g x (ended z))) λ _. refuses)
    s

unwanted_skips : {A : Type 0} {P : A → List ℕ → Type 0} (w : Bool) (s : List ℕ) → Holds P (unwanted w s)
unfolding unwanted
unwanted_skips true s = not_awaited_lem s
unwanted_skips false s = refuses

module _ (T : Table) (good : Good T) (r : ℕ → List ℕ → Answer ReadingCause Value) (skips : (t : ℕ) → Outer (r t)) where
  many_skips : (k t : ℕ) (vs : List Value) → Inner (read_many T r k t open_ended vs)
  unfolding read_many
  many_skips zero t vs s = refuses
  many_skips (suc k) t vs s =
      open_end_lem s (λ u h. yields (ended h)) λ g _.
      if_holds _ (λ e. not_awaited_lem s) λ e _.
      then_holds (skips t s) λ v s₁ x.
      map_holds (many_skips k t (vs ++ (v ∷ [])) s₁) λ ws w y. item_then g x y

  sequence_skips : (ms : List Member) (os : List (Option Value)) (w : Bool) → Inner (read_sequence T r ms os w open_ended)
  unfolding read_sequence
  sequence_skips [] os w s = open_end_lem s (λ u h. yields (ended h)) λ g _. unwanted_skips w s
  sequence_skips (m ∷ ms) os w s =
      if_holds _
      (λ b.
      then_holds (skips m.type s) λ v s₁ x.
      map_holds (sequence_skips ms (os ++ (some v ∷ [])) false s₁) λ ws u y. item_then (begun_on T good m.type s b) x y)
      λ b _.
      if_holds _ (λ op. sequence_skips ms (os ++ (none ∷ [])) true s)
      λ op _. at_end_holds open_ended s (λ u h. refuses) λ _. not_awaited_lem s

  place_skips : (ms : List Member) (os : List (Option Value)) → Outer (place_member T r ms os)
  unfolding place_member
  place_skips [] os s = not_awaited_lem s
  place_skips (m ∷ ms) [] s = not_awaited_lem s
  place_skips (m ∷ ms) (none ∷ os) s =
      if_holds _ (λ b. then_holds (skips m.type s) λ v s₁ x. yields x) λ b _. then_holds (place_skips ms os s) λ us s₁ x. yields x
  place_skips (m ∷ ms) (some v ∷ os) s = then_holds (place_skips ms os s) λ us s₁ x. yields x

  set_skips : (k : ℕ) (ms : List Member) (os : List (Option Value)) → Inner (read_set T r k ms os open_ended)
  unfolding read_set
  set_skips zero ms os s = refuses
  set_skips (suc k) ms os s =
      open_end_lem s (λ u h. if_holds _ (λ a. yields (ended h)) λ a _. refuses) λ g _.
      if_holds _ (λ e. refuses) λ e _.
      then_holds (place_skips ms os s) λ us s₁ x.
      map_holds (set_skips k ms us s₁) λ fin w y. item_then g x y

  choose_skips : (ts : List ℕ) (n : ℕ) → Outer (choose T r ts n)
  unfolding choose
  choose_skips [] n s = not_awaited_lem s
  choose_skips (t ∷ ts) n s = if_holds _ (λ b. then_holds (skips t s) λ v s₁ x. yields x) λ b _. choose_skips ts (suc n) s

  body_skips : (k : Body) → Inner (read_body T r k open_ended)
  unfolding read_body
  body_skips (Plain k) s = refuses
  body_skips (Sequence ms) s = then_holds (sequence_skips ms [] false s) λ os u y. yields y
  body_skips (Set ms) s = then_holds (set_skips _ ms (nothing ms) s) λ os u y. yields y
  body_skips (SequenceOf t) s = then_holds (many_skips _ t [] s) λ vs u y. yields y
  body_skips (SetOf t) s = then_holds (many_skips _ t [] s) λ vs u y. yields y
  body_skips (Choice ts) s = refuses

  kind_skips : (i : List ℕ) (k : Body) → Outer (read_kind T r i k)
  unfolding read_kind
  kind_skips i (Plain k) s =
      then_holds (carried_skips (segmented k) i s) λ c s₁ x.
      then_holds (content_sound k _ c s₁) λ y s₂ h. yields (rw h.0 x)
  kind_skips i (Sequence ms) s = constructed_skips i _ (body_skips (Sequence ms)) s
  kind_skips i (Set ms) s = constructed_skips i _ (body_skips (Set ms)) s
  kind_skips i (SequenceOf t) s = constructed_skips i _ (body_skips (SequenceOf t)) s
  kind_skips i (SetOf t) s = constructed_skips i _ (body_skips (SetOf t)) s
  kind_skips i (Choice ts) s = choose_skips ts 0 s

-- By a table that passed: what reading leaves is what passing over its item by the headers leaves.
pub value_skips : (T : Table) → Good T → (n t : ℕ) (s : List ℕ) → Holds (λ v w. Skips s w) (read_value T n t s)
unfolding read_value
value_skips T good zero t s = refuses
value_skips T good (suc n) t s =
    wrapped_skips (explicit (T t)) _ (λ u. kind_skips T good (λ u w. read_value T n u w) (value_skips T good n) (own_tag (T t)) (T t).body u) s
