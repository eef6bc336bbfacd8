-- Laws of items: the first that passes, the parts that are left, where contents end, and one turn of the reading of items.
-- Assumes nothing.
use borrow.Author.Tests.{eq-eqb, ne_eqb, eqb-true, eqb-false}
use lib.Dec.{eqb}
use lib.ListN.{length, get_or, drop}
use lib.Seq.{drop-drop}
use mathlib.Core.Bool.{Bool, true, false}
use mathlib.Core.List.{List, [], ◌∷◌, ◌++◌}
use mathlib.Core.Option.{Option, some, none, none-ne-some, some-injective}
use mathlib.Core.Path.{◌≡◌, refl, sym, ap, ◌∙◌}
use native.Mathlib.Numerals.{add-one}
use native.Mathlib.Omega.{arith}
use Prim.Native.Nat.{ℕ, zero, suc, ◌+◌, ◌-◌, ◌≤◌, ◌<◌}
use Rattle.x690.specs.declared.ReadingCause.{ReadingCause}
use Rattle.x690.specs.declared.ReadingCause.TheVariants.{Cut, Forbidden, NotAwaited, Trailing}
use Rattle.octets.specs.Answer.{Answer, got, refused, then, if, none_left}
use Rattle.octets.proofs.Answer.{Holds}
use Rattle.octets.proofs.Tests.{test}
use Rattle.x690.specs.Reading.{read_identifier, Mode, closed, open_ended, at_end}
use Rattle.table.specs.Syntax.{Member, Table}
use Rattle.coding.specs.Value.{Value}
use Rattle.coding.specs.Reading.{passes, begun, not_awaited}
use Rattle.coding.specs.Awaited.{begins}
use Rattle.coding.proofs.FirstTags.{Good, Proper, proper_begun}
use Rattle.coding.proofs.Complete.{never}
use Rattle.reader.specs.Items.{Holder, Manner, in_turn, each_once, repeated, single, manner, parts_of, Placed, pending, up_to_mandatory, within}
use Rattle.reader.specs.Items.{left, awaits, remains, lacks, following, noted, is_single, first, Hand, read_part, next, read_items}

-- lists
pub drop_tail : {A : Type 0} (l : List A) (j : ℕ) (x : A) (w : List A) → drop j l ≡ x ∷ w → drop (suc j) l ≡ w
drop_tail l j x w e = let q = drop-drop 1 j l in rw (e, add-one) at (sym q)

pub drop_later : {A : Type 0} (a b : List A) (j i : ℕ) → j ≤ i → drop j a ≡ drop j b → drop i a ≡ drop i b
drop_later a b j i h e =
    let q : j + (i - j) ≡ i = omega arith in
    rw (← q, ← drop-drop (i - j) j a, ← drop-drop (i - j) j b, e) refl

pub no_cons : {A : Type 0} (x : A) (l : List A) → ◌≡◌ {A = List A} [] (x ∷ l) → ⊥
no_cons x l e = let q = ap length e in omega arith

-- the first that passes
module _ {A : Type 0} where
  pub first_hit : (f : A → Bool) (x : A) (l : List A) → f x ≡ true → first f (x ∷ l) ≡ some x
  unfolding first if
  first_hit f x l e = rw e refl

  pub first_miss : (f : A → Bool) (x : A) (l : List A) → f x ≡ false → first f (x ∷ l) ≡ first f l
  unfolding first if
  first_miss f x l e = rw e refl

  pub first_passes : (f : A → Bool) (l : List A) (x : A) → first f l ≡ some x → f x ≡ true
  unfolding first if
  first_passes f [] x e = absurd (none-ne-some x e)
  first_passes f (y ∷ l) x e = test (f y) (λ d. rw (some-injective y x (rw d at e)) at d) λ d. first_passes f l x (rw d at e)

  pub first_none : (f : A → Bool) (l : List A) → ((x : A) → f x ≡ false) → first f l ≡ none
  unfolding first
  first_none f [] h = refl
  first_none f (x ∷ l) h = first_miss f x l (h x) ∙ first_none f l h

  pub first_same : (f g : A → Bool) (l : List A) → ((x : A) → f x ≡ g x) → first f l ≡ first g l
  unfolding first
  first_same f g [] h = refl
  first_same f g (x ∷ l) h = rw (h x, first_same f g l h) refl

-- contents are over, and u stands behind them; they are cut off or in no form that X.690 has; or they go on
abbrev pub Over : Mode → List ℕ → List ℕ → Type 1
Over mode s u = (A : Type 0) (f : List ℕ → Answer ReadingCause A) (x : Unit {0} → Answer ReadingCause A) → at_end mode s f x ≡ f u

abbrev pub Broken : Mode → List ℕ → ReadingCause → ℕ → Type 1
Broken mode s c l = (A : Type 0) (f : List ℕ → Answer ReadingCause A) (x : Unit {0} → Answer ReadingCause A) → at_end mode s f x ≡ refused c l

abbrev pub More : Mode → List ℕ → Type 1
More mode s = (A : Type 0) (f : List ℕ → Answer ReadingCause A) (x : Unit {0} → Answer ReadingCause A) → at_end mode s f x ≡ x tt

-- nothing is noted; what is read leaves fewer octets than were given
abbrev pub Clear : List ℕ → Type 0
Clear came = (p : ℕ) → get_or came p 0 ≡ 0

abbrev pub Shortens : (ℕ → List ℕ → Answer ReadingCause Value) → Type 0
Shortens r = (t : ℕ) (s : List ℕ) → Holds (λ v u. length u < length s) (r t s)

-- where contents may end: no octet is left or the next one is 00, and no item begins; else items go on
pub data Ending (mode : Mode) (s : List ℕ) : Type 1 where
  over : (u : List ℕ) → get_or s 0 0 ≡ 0 → Over mode s u → Ending mode s
  broken : (c : ReadingCause) (l : ℕ) → get_or s 0 0 ≡ 0 → Broken mode s c l → Ending mode s
  more : (More mode s) → Ending mode s

pub ending : (mode : Mode) (s : List ℕ) → Ending mode s
unfolding at_end if none_left
ending closed [] = over [] refl (λ A f x. refl)
ending closed (b ∷ s) = more (λ A f x. refl)
ending open_ended [] = broken Cut 0 refl (λ A f x. refl)
ending open_ended (zero ∷ []) = broken Cut 1 refl (λ A f x. refl)
ending open_ended (zero ∷ zero ∷ s) = over s refl (λ A f x. refl)
ending open_ended (zero ∷ suc b ∷ s) = broken Forbidden (suc (suc (length s))) refl (λ A f x. rw (ne_eqb (suc b) 0 (λ e. omega arith)) refl)
ending open_ended (suc b ∷ s) = more (λ A f x. rw (ne_eqb (suc b) 0 (λ e. omega arith)) refl)

-- no item begins with 00
no_zero : Proper (0 ∷ []) → ⊥
no_zero p = let b = proper_begun p in let e : 0 ≡ b.head = ap (λ (l : List ℕ). get_or l 0 0) b.is in let z = b.not_zero in omega arith

pub begun_zero : (T : Table) → Good T → (t : ℕ) (s : List ℕ) → get_or s 0 0 ≡ 0 → begun T t s ≡ false
unfolding begun passes read_identifier if
begun_zero T good t [] e = refl
begun_zero T good t (b ∷ s) e = rw e (never (begins T t (0 ∷ [])) (λ z. no_zero ((good t).first (0 ∷ []) z)))

pub then_self : {A : Type 0} (x : Answer ReadingCause A) → then x (λ a u. got a u) ≡ x
unfolding then
then_self (got a u) = refl
then_self (refused c l) = refl

-- what follows may be replaced by what answers alike
pub then_same : {A B : Type 0} (x : Answer ReadingCause A) (f g : A → List ℕ → Answer ReadingCause B) → ((a : A) (u : List ℕ) → x ≡ got a u → f a u ≡ g a u) → then x f ≡ then x g
unfolding then
then_same (got a u) f g h = h a u refl
then_same (refused c l) f g h = refl

pub then_then : {A B C : Type 0} (x : Answer ReadingCause A) (f : A → List ℕ → Answer ReadingCause B) (g : B → List ℕ → Answer ReadingCause C) → then (then x f) g ≡ then x λ a u. then (f a u) g
unfolding then
then_then (got a u) f g = refl
then_then (refused c l) f g = refl

-- an item that is not awaited is refused, whatever is read of it
pub unawaited_on : {A B : Type 0} (s : List ℕ) (f : A → List ℕ → Answer ReadingCause B) → then (not_awaited s) f ≡ not_awaited s
unfolding not_awaited then
unawaited_on {A} {B} s f = go (read_identifier s)
  where
    go : (x : Answer ReadingCause (List ℕ)) → then (then {B = A} x λ i s₁. refused NotAwaited (length s)) f ≡ then x λ i s₁. refused NotAwaited (length s)
    go (got i w) = refl
    go (refused c l) = refl

-- the parts that are left, one by one
module _ (came : List ℕ) where
  pub pending_free : (k : ℕ) (m : Member) (ms : List Member) → get_or came k 0 ≡ 0 → pending came k (m ∷ ms) ≡ (k, m) ∷ pending came (suc k) ms
  unfolding pending if
  pending_free k m ms e = rw (eq-eqb (get_or came k 0) 0 e) refl

  pub pending_come : (k : ℕ) (m : Member) (ms : List Member) → (get_or came k 0 ≡ 0 → ⊥) → pending came k (m ∷ ms) ≡ pending came (suc k) ms
  unfolding pending if
  pending_come k m ms e = rw (ne_eqb (get_or came k 0) 0 e) refl

-- a part that was found among those that are left: its place is k or behind, it is the part of that place, and it has not come
pub record Found (came : List ℕ) (k : ℕ) (ms : List Member) (x : Placed) : Type 0 where
  pub offset : ℕ
  pub place : x.0 ≡ k + offset
  pub low : offset < length ms
  pub is : drop offset ms ≡ x.1 ∷ drop (suc offset) ms
  pub free : get_or came x.0 0 ≡ 0

abbrev pub IfFound : List ℕ → ℕ → List Member → Option Placed → Type 0
IfFound came k ms none = Unit {0}
IfFound came k ms (some x) = Found came k ms x

pub found_of : (came : List ℕ) (k : ℕ) (ms : List Member) (o : Option Placed) (x : Placed) → IfFound came k ms o → o ≡ some x → Found came k ms x
found_of came k ms o x h e = rw e at h

module _ (came : List ℕ) where
  found_later : (k : ℕ) (m : Member) (ms : List Member) (o : Option Placed) → IfFound came (suc k) ms o → IfFound came k (m ∷ ms) o
  found_later k m ms none h = tt
  found_later k m ms (some x) h =
      let e = h.place in
      let l = h.low in
      record { offset = suc h.offset; place = omega arith; low = omega arith; is = h.is; free = h.free }

  found_here : (k : ℕ) (m : Member) (ms : List Member) → get_or came k 0 ≡ 0 → Found came k (m ∷ ms) (k, m)
  found_here k m ms e = record { offset = 0; place = omega arith; low = omega arith; is = refl; free = e }

  -- of those that are left, and of those up to the first mandatory one
  pub pending_found : (f : Placed → Bool) (k : ℕ) (ms : List Member) → IfFound came k ms (first f (pending came k ms))
  unfolding first pending
  pending_found f k [] = tt
  pending_found f k (m ∷ ms) =
      test (eqb (get_or came k 0) 0)
      (λ e.
      let z = eqb-true (get_or came k 0) 0 e in
      rw (pending_free came k m ms z)
      (test (f (k, m))
      (λ g. rw (first_hit f (k, m) (pending came (suc k) ms) g) (found_here k m ms z))
      λ g. rw (first_miss f (k, m) (pending came (suc k) ms) g) (found_later k m ms (first f (pending came (suc k) ms)) (pending_found f (suc k) ms))))
      λ e. rw (pending_come came k m ms (eqb-false (get_or came k 0) 0 e)) (found_later k m ms (first f (pending came (suc k) ms)) (pending_found f (suc k) ms))

-- those up to the first mandatory one are the first of those that are left
pub upto_first : (f : Placed → Bool) (l : List Placed) (P : Option Placed → Type 0) → P none → P (first f l) → P (first f (up_to_mandatory l))
unfolding up_to_mandatory first if
upto_first f [] P n p = n
upto_first f (x ∷ l) P n p =
    test (f x)
    (λ e. rw (first_hit f x _ e) (rw (first_hit f x l e) at p))
    λ e.
    let q = rw (first_miss f x l e) at p in
    rw (first_miss f x _ e) (test x.1.optional (λ o. rw o (upto_first f l P n q)) λ o. rw o n)

within_first : (w : Manner) (f : Placed → Bool) (l : List Placed) (P : Option Placed → Type 0) → P none → P (first f l) → P (first f (within w l))
unfolding within
within_first in_turn f l P n p = upto_first f l P n p
within_first each_once f l P n p = p
within_first repeated f l P n p = p
within_first single f l P n p = p

pub awaits_found : (h : Holder) (j : ℕ) (came : List ℕ) (f : Placed → Bool) → IfFound came j (drop j (parts_of h)) (first f (awaits h j came))
awaits_found h j came f = within_first (manner h) f (left h j came) (IfFound came j (drop j (parts_of h))) tt (pending_found came f j (drop j (parts_of h)))

-- one turn
module _ (T : Table) (r : ℕ → List ℕ → Answer ReadingCause Value) (h : Holder) (k j : ℕ) (came : List ℕ) (hand : Hand) (mode : Mode) (s : List ℕ) where
  abbrev Whole : Answer ReadingCause Hand
  Whole = read_items T r h (suc k) j came hand mode s

  -- an item of a CHOICE or a message
  module _ (one : is_single (manner h) ≡ true) where
    pub single_unawaited : next T h j came s ≡ none → Whole ≡ not_awaited s
    unfolding read_items if read_part
    single_unawaited e = rw (one, e) (unawaited_on s (λ x s₁. got (hand ++ (x ∷ [])) s₁))

    module _ (x : Placed) (e : next T h j came s ≡ some x) where
      pub single_refused : (c : ReadingCause) (l : ℕ) → r x.1.type s ≡ refused c l → Whole ≡ refused c l
      unfolding read_items if read_part then
      single_refused c l d = rw (one, e, d) refl

      pub single_done : (v : Value) (u : List ℕ) → r x.1.type s ≡ got v u → Whole ≡ got (hand ++ ((x.0, v) ∷ [])) u
      unfolding read_items if read_part then
      single_done v u d = rw (one, e, d) refl

  -- the others: over and complete, over and lacking one, a broken end
  module _ (many : is_single (manner h) ≡ false) where
    module _ (u : List ℕ) (end : Over mode s u) where
      pub items_over : lacks h j came ≡ false → Whole ≡ got hand u
      unfolding read_items if
      items_over e = rw (many, end, e) refl

      pub items_lacking : lacks h j came ≡ true → Whole ≡ refused NotAwaited (length s)
      unfolding read_items if
      items_lacking e = rw (many, end, e) refl

    pub items_broken : (c : ReadingCause) (l : ℕ) → Broken mode s c l → Whole ≡ refused c l
    unfolding read_items if
    items_broken c l end = rw (many, end) refl

    -- an item: where no part is left, of none that is awaited, and of one
    module _ (end : More mode s) where
      pub items_full : remains h j came ≡ false → Whole ≡ refused Trailing (length s)
      unfolding read_items if
      items_full e = rw (many, end, e) refl

      module _ (some_left : remains h j came ≡ true) where
        pub items_unawaited : next T h j came s ≡ none → Whole ≡ not_awaited s
        unfolding read_items if read_part
        items_unawaited e = rw (many, end, some_left, e) (unawaited_on s _)

        module _ (x : Placed) (e : next T h j came s ≡ some x) where
          pub items_refused : (c : ReadingCause) (l : ℕ) → r x.1.type s ≡ refused c l → Whole ≡ refused c l
          unfolding read_items if read_part then
          items_refused c l d = rw (many, end, some_left, e, d) refl

          pub items_turn : (v : Value) (u : List ℕ) → r x.1.type s ≡ got v u
              → Whole ≡ read_items T r h k (following (manner h) x.0) (noted (manner h) came x.0) (hand ++ ((x.0, v) ∷ [])) mode u
          unfolding read_items if read_part then
          items_turn v u d = rw (many, end, some_left, e, d) refl
