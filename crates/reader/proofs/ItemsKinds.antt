-- The contents of each kind are the items that stand in them: elements, the alternative of a CHOICE, the value of a message, and members.
-- Assumes nothing.
use lib.ListN.{length, get_or, replicate}
use mathlib.Core.Bool.{Bool, true, false, not}
use mathlib.Core.List.{List, [], ◌∷◌, ◌++◌}
use mathlib.Core.Option.{Option, some, none}
use mathlib.Core.Path.{◌≡◌, refl, sym, ap, ◌∙◌}
use native.Mathlib.Omega.{arith}
use Prim.Native.Nat.{ℕ, zero, suc, ◌≤◌}
use Rattle.x690.specs.declared.ReadingCause.{ReadingCause}
use Rattle.x690.specs.declared.ReadingCause.TheVariants.{Cut, Trailing}
use Rattle.octets.specs.Answer.{Answer, got, refused, then, if, none_left}
use Rattle.octets.specs.Lists.{any}
use Rattle.octets.proofs.Tests.{test}
use Rattle.x690.specs.Reading.{Mode, read_constructed}
use Rattle.table.specs.Syntax.{Member, Body, Plain, Sequence, Set, SequenceOf, SetOf, Choice, Table}
use Rattle.table.specs.Rules.{members}
use Rattle.coding.specs.Value.{Value, choice, sequence, set, sequence_of, set_of, slots, bag}
use Rattle.coding.specs.Reading.{begun, not_awaited, nothing, read_many, choose, read_body, read_kind, read_value, read_message}
use Rattle.coding.proofs.FirstTags.{Good}
use Rattle.reader.specs.Items.{Holder, inside, message, repeated, single, manner, parts_of, optionals, Placed, pending, within, left, awaits}
use Rattle.reader.specs.Items.{remains, lacks, some_of, following, noted, is_single, first, Hand, next, read_items, filled, values, only}
use Rattle.reader.specs.Items.{assemble, blank, read_held}
use Rattle.reader.proofs.Items.{More, Clear, Shortens, then_self, Ending, over, broken, more, ending, unawaited_on, pending_free, items_over}
use Rattle.reader.proofs.Items.{items_broken, items_unawaited, items_refused, items_turn, single_unawaited, single_refused, single_done}
use Rattle.reader.proofs.ItemsInTurn.{sequence_items}
use Rattle.reader.proofs.ItemsEachOnce.{set_items, came_none}

-- lists
values_snoc : (hand : Hand) (x : ℕ × Value) → values (hand ++ (x ∷ [])) ≡ values hand ++ (x.1 ∷ [])
values_snoc [] x = refl
values_snoc (y ∷ hand) x = ap (λ (l : List Value). y.1 ∷ l) (values_snoc hand x)

module _ (T : Table) (r : ℕ → List ℕ → Answer ReadingCause Value) (h : Holder) (t : ℕ) (again : manner h ≡ repeated) (one : parts_of h ≡ optionals (t ∷ [])) (came : List ℕ)
    (clear : get_or came 0 0 ≡ 0) (mode : Mode) where
  abbrev Element : Member
  Element = record { type = t; optional = true }

  its_left : left h 0 came ≡ (0, Element) ∷ []
  unfolding pending
  its_left = rw (one, pending_free came 0 Element [] clear) refl

  its_awaits : awaits h 0 came ≡ (0, Element) ∷ []
  unfolding within
  its_awaits = rw (again, its_left) refl

  many : is_single (manner h) ≡ false
  unfolding is_single
  many = rw again refl

  none_lacks : lacks h 0 came ≡ false
  unfolding any
  none_lacks = rw its_left refl

  one_remains : remains h 0 came ≡ true
  unfolding some_of
  one_remains = rw its_left refl

  abbrev Result : ℕ → Hand → List ℕ → Answer ReadingCause (List Value)
  Result k hand s = then (read_items T r h k 0 came hand mode s) λ hand u. got (values hand) u

  abbrev Agrees : ℕ → Type 0
  Agrees k = (hand : Hand) (s : List ℕ) → read_many T r k t mode (values hand) s ≡ Result k hand s

  module _ (k : ℕ) (hand : Hand) (s : List ℕ) (agrees : Agrees k) where
    next_begun : begun T t s ≡ true → next T h 0 came s ≡ some (0, Element)
    unfolding first if
    next_begun e = rw (its_awaits, e) refl

    next_other : begun T t s ≡ false → next T h 0 came s ≡ none
    unfolding first if
    next_other e = rw (its_awaits, e) refl

    module _ (end : More mode s) where
      many_unawaited : begun T t s ≡ false → read_many T r (suc k) t mode (values hand) s ≡ not_awaited s
      unfolding read_many if
      many_unawaited e = rw (end, e) refl

      many_begun : begun T t s ≡ true → read_many T r (suc k) t mode (values hand) s ≡ then (r t s) λ v s₁. read_many T r k t mode (values hand ++ (v ∷ [])) s₁
      unfolding read_many if
      many_begun e = rw (end, e) refl

      on_begun : begun T t s ≡ true → (a : Answer ReadingCause Value) → r t s ≡ a
          → then a (λ v s₁. read_many T r k t mode (values hand ++ (v ∷ [])) s₁) ≡ Result (suc k) hand s
      unfolding then following noted
      on_begun b (refused c l) e = rw (items_refused T r h k 0 came hand mode s many end one_remains (0, Element) (next_begun b) c l e) refl
      on_begun b (got v u) e =
          rw (items_turn T r h k 0 came hand mode s many end one_remains (0, Element) (next_begun b) v u e, again, ← values_snoc hand (0, v))
          (agrees (hand ++ ((0, v) ∷ [])) u)

      at_more : read_many T r (suc k) t mode (values hand) s ≡ Result (suc k) hand s
      at_more =
          test (begun T t s) (λ b. many_begun b ∙ on_begun b (r t s) refl)
          λ b. many_unawaited b ∙ sym (rw (items_unawaited T r h k 0 came hand mode s many end one_remains (next_other b)) (unawaited_on s _))

    at_ending_lem : Ending mode s → read_many T r (suc k) t mode (values hand) s ≡ Result (suc k) hand s
    unfolding read_many then
    at_ending_lem (over u z end) = rw (end, items_over T r h k 0 came hand mode s many u end none_lacks) refl
    at_ending_lem (broken c l z end) = rw (end, items_broken T r h k 0 came hand mode s many c l end) refl
    at_ending_lem (more end) = at_more end

  pub list_items : (k : ℕ) → Agrees k
  unfolding read_many read_items then
  list_items zero hand s = refl
  list_items (suc k) hand s = at_ending_lem k hand s (list_items k) (ending mode s)

-- a CHOICE
module _ (T : Table) (r : ℕ → List ℕ → Answer ReadingCause Value) (came : List ℕ) (clear : Clear came) (s : List ℕ) where
  abbrev Begun : Placed → Bool
  Begun x = begun T x.1.type s

  abbrev Chosen : Option Placed → Answer ReadingCause Value
  Chosen none = not_awaited s
  Chosen (some x) = then (r x.1.type s) λ v s₁. got (choice x.0 v) s₁

  choose_first : (ts : List ℕ) (n : ℕ) → choose T r ts n s ≡ Chosen (first Begun (pending came n (optionals ts)))
  unfolding choose pending first if
  choose_first [] n = refl
  choose_first (t ∷ ts) n =
      rw (pending_free came n (record { type = t; optional = true }) (optionals ts) (clear n))
      (test (begun T t s) (λ b. rw b refl) λ b. rw b (choose_first ts (suc n)))

  module _ (k : ℕ) (mode : Mode) where
    abbrev Single : Holder → Answer ReadingCause Value
    Single h = then (read_items T r h (suc k) 0 came [] mode s) λ hand u. got (assemble h hand) u

    module _ (h : Holder) (one : manner h ≡ single) where
      yes : is_single (manner h) ≡ true
      unfolding is_single
      yes = rw one refl

      -- what f makes of the item is the value that is assembled
      single_item : (f : ℕ → Value → Value) → ((p : ℕ) (v : Value) → assemble h ((p, v) ∷ []) ≡ f p v) → (o : Option Placed) → next T h 0 came s ≡ o
          → (x : Placed) → o ≡ some x
          → (a : Answer ReadingCause Value) → r x.1.type s ≡ a → then a (λ v s₁. got (f x.0 v) s₁) ≡ Single h
      unfolding then
      single_item f g o e x d (refused c l) q = rw (single_refused T r h k 0 came [] mode s yes x (e ∙ d) c l q) refl
      single_item f g o e x d (got v u) q = rw (single_done T r h k 0 came [] mode s yes x (e ∙ d) v u q, g x.0 v) refl

      single_none : next T h 0 came s ≡ none → not_awaited s ≡ Single h
      single_none e = sym (rw (single_unawaited T r h k 0 came [] mode s yes e) (unawaited_on s _))

    on_chosen : (ts : List ℕ) (o : Option Placed) → next T (inside (Choice ts)) 0 came s ≡ o → Chosen o ≡ Single (inside (Choice ts))
    unfolding manner assemble only
    on_chosen ts none e = single_none (inside (Choice ts)) refl e
    on_chosen ts (some x) e = single_item (inside (Choice ts)) refl choice (λ p v. refl) (some x) e x refl (r x.1.type s) refl

    pub choice_items : (ts : List ℕ) → choose T r ts 0 s ≡ Single (inside (Choice ts))
    unfolding manner parts_of within
    choice_items ts = choose_first ts 0 ∙ on_chosen ts (first Begun (pending came 0 (optionals ts))) refl

    -- a message
    abbrev Root : ℕ → Member
    Root t = record { type = t; optional = true }

    root_begun : (t : ℕ) → begun T t s ≡ true → next T (message t) 0 came s ≡ some (0, Root t)
    unfolding manner parts_of within pending first if
    root_begun t b = rw (pending_free came 0 (Root t) [] (clear 0), b) refl

    root_other : (t : ℕ) → begun T t s ≡ false → next T (message t) 0 came s ≡ none
    unfolding manner parts_of within pending first if
    root_other t b = rw (pending_free came 0 (Root t) [] (clear 0), b) refl

    pub message_items : (t : ℕ) → if (not (begun T t s)) (not_awaited s) (λ _. r t s) ≡ Single (message t)
    unfolding if manner assemble only
    message_items t =
        test (begun T t s)
        (λ b. rw b (sym (then_self (r t s))
        ∙ single_item (message t) refl (λ p v. v) (λ p v. refl) (some (0, Root t)) (root_begun t b) (0, Root t) refl (r t s) refl))
        λ b. rw b (single_none (message t) refl (root_other t b))

-- nothing has come at first
pub blank_clear : (p : ℕ) → get_or blank p 0 ≡ 0
blank_clear p = zeros 16 p
  where
    zeros : (n p : ℕ) → ◌≡◌ {A = ℕ} (get_or (replicate n 0) p 0) 0
    zeros zero p = refl
    zeros (suc n) zero = refl
    zeros (suc n) (suc p) = zeros n p

-- the contents of a kind
module _ (T : Table) (r : ℕ → List ℕ → Answer ReadingCause Value) where
  module _ (mode : Mode) (s : List ℕ) where
    -- what f makes of slots, or of elements
    through : {A : Type 0} (x : Answer ReadingCause Hand) (g : Hand → A) (f : A → Value) (h : Holder) → ((hand : Hand) → f (g hand) ≡ assemble h hand)
        → then (then x λ hand u. got (g hand) u) (λ a u. got (f a) u) ≡ then x λ hand u. got (assemble h hand) u
    unfolding then
    through (got hand u) g f h e = rw (e hand) refl
    through (refused c l) g f h e = refl

    pub sequence_held : Good T → Shortens r → (ms : List Member) → read_body T r (Sequence ms) mode s ≡ read_held T r (inside (Sequence ms)) mode s
    unfolding read_body read_held assemble filled
    sequence_held good short ms =
        ap (λ (x : Answer ReadingCause (List (Option Value))). then x λ os u. got (sequence (slots os)) u)
        (sequence_items T good r short ms blank blank_clear mode (suc (length s)) 0 [] s (omega arith) refl)
        ∙ through (read_items T r (inside (Sequence ms)) (suc (length s)) 0 blank [] mode s)
        (λ hand. filled hand (nothing ms)) (λ os. sequence (slots os)) (inside (Sequence ms)) (λ hand. refl)

    pub set_held : (ms : List Member) → length ms ≤ 16 → read_body T r (Set ms) mode s ≡ read_held T r (inside (Set ms)) mode s
    unfolding read_body read_held assemble filled
    set_held ms few =
        ap (λ (x : Answer ReadingCause (List (Option Value))). then x λ os u. got (set (slots os)) u)
        (set_items T r ms mode (suc (length s)) blank [] s few (came_none blank blank_clear 0 ms))
        ∙ through (read_items T r (inside (Set ms)) (suc (length s)) 0 blank [] mode s)
        (λ hand. filled hand (nothing ms)) (λ os. set (slots os)) (inside (Set ms)) (λ hand. refl)

    pub sequence_of_held : (t : ℕ) → read_body T r (SequenceOf t) mode s ≡ read_held T r (inside (SequenceOf t)) mode s
    unfolding read_body read_held assemble manner parts_of
    sequence_of_held t =
        ap (λ (x : Answer ReadingCause (List Value)). then x λ vs u. got (sequence_of (bag vs)) u)
        (list_items T r (inside (SequenceOf t)) t refl refl blank (blank_clear 0) mode (suc (length s)) [] s)
        ∙ through (read_items T r (inside (SequenceOf t)) (suc (length s)) 0 blank [] mode s)
        (λ hand. values hand) (λ vs. sequence_of (bag vs)) (inside (SequenceOf t)) (λ hand. refl)

    pub set_of_held : (t : ℕ) → read_body T r (SetOf t) mode s ≡ read_held T r (inside (SetOf t)) mode s
    unfolding read_body read_held assemble manner parts_of
    set_of_held t =
        ap (λ (x : Answer ReadingCause (List Value)). then x λ vs u. got (set_of (bag vs)) u)
        (list_items T r (inside (SetOf t)) t refl refl blank (blank_clear 0) mode (suc (length s)) [] s)
        ∙ through (read_items T r (inside (SetOf t)) (suc (length s)) 0 blank [] mode s)
        (λ hand. values hand) (λ vs. set_of (bag vs)) (inside (SetOf t)) (λ hand. refl)

    pub choice_held : (ts : List ℕ) → choose T r ts 0 s ≡ read_held T r (inside (Choice ts)) mode s
    unfolding read_held
    choice_held ts = choice_items T r blank blank_clear s (length s) mode ts

    pub message_held : (t : ℕ) → if (not (begun T t s)) (not_awaited s) (λ _. r t s) ≡ read_held T r (message t) mode s
    unfolding read_held
    message_held t = message_items T r blank blank_clear s (length s) mode t

  -- and the whole item of a kind
  module _ (good : Good T) (short : Shortens r) (i s : List ℕ) where
    abbrev Constructed : Body → Answer ReadingCause Value
    Constructed b = read_constructed i (read_held T r (inside b)) s

    constructed_held : (b : Body) → ((mode : Mode) (w : List ℕ) → read_body T r b mode w ≡ read_held T r (inside b) mode w)
        → read_constructed i (read_body T r b) s ≡ Constructed b
    constructed_held b e = ap (λ (f : Mode → List ℕ → Answer ReadingCause Value). read_constructed i f s) (λ j mode w. e mode w j)

    abbrev pub Kind : Body → Answer ReadingCause Value → Type 0
    Kind (Plain k) x = Unit {0}
    Kind (Sequence ms) x = x ≡ Constructed (Sequence ms)
    Kind (Set ms) x = x ≡ Constructed (Set ms)
    Kind (SequenceOf t) x = x ≡ Constructed (SequenceOf t)
    Kind (SetOf t) x = x ≡ Constructed (SetOf t)
    Kind (Choice ts) x = (mode : Mode) → x ≡ read_held T r (inside (Choice ts)) mode s

    pub kind_held : (b : Body) → length (members b) ≤ 16 → Kind b (read_kind T r i b s)
    unfolding read_kind members
    kind_held (Plain k) few = tt
    kind_held (Sequence ms) few = constructed_held (Sequence ms) (λ mode w. sequence_held mode w good short ms)
    kind_held (Set ms) few = constructed_held (Set ms) (λ mode w. set_held mode w ms few)
    kind_held (SequenceOf t) few = constructed_held (SequenceOf t) (λ mode w. sequence_of_held mode w t)
    kind_held (SetOf t) few = constructed_held (SetOf t) (λ mode w. set_of_held mode w t)
    kind_held (Choice ts) few = λ mode. choice_held mode s ts

-- a whole message
pub message_whole : (T : Table) (n t : ℕ) (mode : Mode) (s : List ℕ)
    → read_message T n t s
    ≡ if (none_left s) (refused Cut 0) λ _.
    then (read_held T (read_value T n) (message t) mode s) λ v r. if (not (none_left r)) (refused Trailing (length r)) λ _. got v r
unfolding read_message if
message_whole T n t mode s =
    ap (λ (x : Unit {0} → Answer ReadingCause Value). if (none_left s) (refused Cut 0) x)
    (λ i _. (regroup (begun T t s) ∙ ap (λ (x : Answer ReadingCause Value). then x Behind) (message_held T (read_value T n) mode s t)) i)
  where
    Behind : Value → List ℕ → Answer ReadingCause Value
    Behind v r = if (not (none_left r)) (refused Trailing (length r)) λ _. got v r

    regroup : (b : Bool) → if (not b) (not_awaited s) (λ _. then (read_value T n t s) Behind) ≡ then (if (not b) (not_awaited s) λ _. read_value T n t s) Behind
    regroup true = refl
    regroup false = sym (unawaited_on s Behind)
