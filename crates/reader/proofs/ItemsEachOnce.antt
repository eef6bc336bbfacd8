-- The members of a SET, put where they belong one by one, are read item by item.
-- Assumes nothing.
use lib.ListN.{length, get_or, set as set_at, length-set}
use lib.Seq.{get_or-set_same, get_or-set_other}
use mathlib.Core.Bool.{Bool, true, false, not}
use mathlib.Core.List.{List, [], ◌∷◌, ◌++◌}
use mathlib.Core.Option.{Option, some, none}
use mathlib.Core.Path.{◌≡◌, refl, sym, ap, ◌∙◌}
use native.Mathlib.Omega.{arith}
use Prim.Native.Nat.{ℕ, zero, suc, ◌+◌, ◌-◌, ◌≤◌, ◌<◌}
use Rattle.x690.specs.declared.ReadingCause.{ReadingCause}
use Rattle.x690.specs.declared.ReadingCause.TheVariants.{Trailing}
use Rattle.octets.specs.Answer.{Answer, got, refused, then, if}
use Rattle.octets.specs.Lists.{any}
use Rattle.octets.proofs.Tests.{test}
use Rattle.x690.specs.Reading.{Mode}
use Rattle.table.specs.Syntax.{Member, Set, Table}
use Rattle.coding.specs.Value.{Value}
use Rattle.coding.specs.Encodes.{allowed}
use Rattle.coding.specs.Reading.{begun, not_awaited, nothing, full, place_member, read_set}
use Rattle.reader.specs.Items.{Holder, inside, manner, parts_of, Placed, pending, within, some_of, following, noted, is_single, first, Hand}
use Rattle.reader.specs.Items.{read_items, filled}
use Rattle.reader.proofs.Items.{Over, Broken, More, Clear, then_same, then_then, Ending, over, broken, more, ending, unawaited_on}
use Rattle.reader.proofs.Items.{pending_free, pending_come, IfFound, Found, found_of, pending_found, awaits_found, items_over, items_lacking}
use Rattle.reader.proofs.Items.{items_broken, items_full, items_unawaited, items_refused, items_turn}
use Rattle.reader.proofs.ItemsInTurn.{filled_snoc}

-- 0 is noted from place k on for those members that are missing
pub data CameAs (came : List ℕ) : ℕ → List Member → List (Option Value) → Type 0 where
  no_more : {k : ℕ} → CameAs came k [] []
  vacant : {k : ℕ} {m : Member} {ms : List Member} {os : List (Option Value)} → get_or came k 0 ≡ 0 → CameAs came (suc k) ms os
      → CameAs came k (m ∷ ms) (none ∷ os)
  taken : {k : ℕ} {m : Member} {ms : List Member} {v : Value} {os : List (Option Value)} → (get_or came k 0 ≡ 0 → ⊥) → CameAs came (suc k) ms os
      → CameAs came k (m ∷ ms) (some v ∷ os)

pub came_none : (came : List ℕ) → Clear came → (k : ℕ) (ms : List Member) → CameAs came k ms (nothing ms)
unfolding nothing
came_none came clear k [] = no_more
came_none came clear k (m ∷ ms) = vacant (clear k) (came_none came clear (suc k) ms)

-- one more is noted
set_before : (came : List ℕ) (p k : ℕ) → p < k → get_or (set_at came p 1) k 0 ≡ get_or came k 0
set_before came p k h = get_or-set_other came p k 1 0 (λ e. omega arith)

module _ (came : List ℕ) where
  came_other : {k : ℕ} {ms : List Member} {os : List (Option Value)} (p : ℕ) → p < k → CameAs came k ms os → CameAs (set_at came p 1) k ms os
  came_other p h no_more = no_more
  came_other {k} p h (vacant e d) = vacant (set_before came p k h ∙ e) (came_other p (omega arith) d)
  came_other {k} p h (taken e d) = taken (λ z. e (sym (set_before came p k h) ∙ z)) (came_other p (omega arith) d)

  noted_one : (p k : ℕ) → p ≡ k → p < length came → get_or (set_at came p 1) k 0 ≡ 0 → ⊥
  noted_one p k e l z = let q = get_or-set_same came p 1 0 l in let y : get_or (set_at came p 1) p 0 ≡ 0 = ap (λ (i : ℕ). get_or (set_at came p 1) i 0) e
      ∙ z in omega arith

  pub came_set : {k : ℕ} {ms : List Member} {os : List (Option Value)} (p i : ℕ) (v : Value) → p ≡ k + i → i < length ms → p < length came
      → CameAs came k ms os
      → CameAs (set_at came p 1) k ms (set_at os i (some v))
  came_set p i v q h l no_more = absurd (omega arith)
  came_set {k} p zero v q h l (vacant e d) = taken (noted_one p k (omega arith) l) (came_other p (omega arith) d)
  came_set {k} p zero v q h l (taken e d) = taken (noted_one p k (omega arith) l) (came_other p (omega arith) d)
  came_set {k} p (suc i) v q h l (vacant e d) = vacant (get_or-set_other came p k 1 0 (λ z. omega arith) ∙ e) (came_set p i v (omega arith) (omega arith) l d)
  came_set {k} p (suc i) v q h l (taken e d) =
      taken (λ z. e (sym (get_or-set_other came p k 1 0 (λ z. omega arith)) ∙ z)) (came_set p i v (omega arith) (omega arith) l d)

-- what the notes say
module _ (came : List ℕ) where
  allowed_came : {k : ℕ} {ms : List Member} {os : List (Option Value)} → CameAs came k ms os
      → allowed ms os ≡ not (any (λ x. not x.1.optional) (pending came k ms))
  unfolding allowed any pending
  allowed_came no_more = refl
  allowed_came {k} (vacant {m = m} {ms = ms} e d) = rw (pending_free came k m ms e) (test m.optional (λ o. rw o (allowed_came d)) λ o. rw o refl)
  allowed_came {k} (taken {m = m} {ms = ms} e d) = rw (pending_come came k m ms e) (allowed_came d)

  full_came : {k : ℕ} {ms : List Member} {os : List (Option Value)} → CameAs came k ms os → full os ≡ not (some_of (pending came k ms))
  unfolding full some_of pending
  full_came no_more = refl
  full_came {k} (vacant {m = m} {ms = ms} e d) = rw (pending_free came k m ms e) refl
  full_came {k} (taken {m = m} {ms = ms} e d) = rw (pending_come came k m ms e) (full_came d)

  -- the member that an item begins
  module _ (T : Table) (r : ℕ → List ℕ → Answer ReadingCause Value) (s : List ℕ) where
    abbrev Begun : Placed → Bool
    Begun x = begun T x.1.type s

    abbrev Put : ℕ → List (Option Value) → Option Placed → Answer ReadingCause (List (Option Value))
    Put k os none = not_awaited s
    Put k os (some x) = then (r x.1.type s) λ v s₁. got (set_at os (x.0 - k) (some v)) s₁

    put_later : (k : ℕ) (m : Member) (ms : List Member) (o : Option Value) (os : List (Option Value)) (x : Option Placed) → IfFound came (suc k) ms x
        → then (Put (suc k) os x) (λ us s₁. got (o ∷ us) s₁) ≡ Put k (o ∷ os) x
    unfolding then
    put_later k m ms o os none h = unawaited_on s _
    put_later k m ms o os (some x) h =
        let e = h.place in
        let q : x.0 - k ≡ suc (x.0 - suc k) = omega arith in
        then_then (r x.1.type s) _ _ ∙ then_same (r x.1.type s) _ _ (λ v u _. rw q refl)

    place_came : {k : ℕ} {ms : List Member} {os : List (Option Value)} → CameAs came k ms os → place_member T r ms os s ≡ Put k os (first Begun (pending came k ms))
    unfolding place_member pending first if
    place_came no_more = refl
    place_came {k} (vacant {m = m} {ms = ms} {os = os} e d) =
        rw (pending_free came k m ms e)
        (test (begun T m.type s)
        (λ b. let q : k - k ≡ 0 = omega arith in rw (b, q) refl)
        λ b.
        rw b (ap (λ (y : Answer ReadingCause (List (Option Value))). then y (λ us s₁. got (none ∷ us) s₁)) (place_came d)
        ∙ put_later k m ms none os (first Begun (pending came (suc k) ms)) (pending_found came Begun (suc k) ms)))
    place_came {k} (taken {m = m} {ms = ms} {v = v} {os = os} e d) =
        rw (pending_come came k m ms e)
        (ap (λ (y : Answer ReadingCause (List (Option Value))). then y (λ us s₁. got (some v ∷ us) s₁)) (place_came d)
        ∙ put_later k m ms (some v) os (first Begun (pending came (suc k) ms)) (pending_found came Begun (suc k) ms))

module _ (T : Table) (r : ℕ → List ℕ → Answer ReadingCause Value) (ms : List Member) (mode : Mode) where
  abbrev H : Holder
  H = inside (Set ms)

  abbrev Slots : Hand → List (Option Value)
  Slots hand = filled hand (nothing ms)

  abbrev Result : ℕ → List ℕ → Hand → List ℕ → Answer ReadingCause (List (Option Value))
  Result k came hand s = then (read_items T r H k 0 came hand mode s) λ hand u. got (Slots hand) u

  abbrev Agrees : ℕ → Type 0
  Agrees k = (came : List ℕ) (hand : Hand) (s : List ℕ) → length ms ≤ length came → CameAs came 0 ms (Slots hand)
      → read_set T r k ms (Slots hand) mode s ≡ Result k came hand s

  module _ (k : ℕ) (came : List ℕ) (hand : Hand) (s : List ℕ) (wide : length ms ≤ length came) (d : CameAs came 0 ms (Slots hand)) (again : Agrees k) where
    at_the_end : (u : List ℕ) → Over mode s u → read_set T r (suc k) ms (Slots hand) mode s ≡ Result (suc k) came hand s
    unfolding read_set is_single manner parts_of if then
    at_the_end u end =
        test (any (λ x. not x.1.optional) (pending came 0 ms))
        (λ e. rw (end, allowed_came came d, e, items_lacking T r H k 0 came hand mode s refl u end e) refl)
        λ e. rw (end, allowed_came came d, e, items_over T r H k 0 came hand mode s refl u end e) refl

    at_broken : (c : ReadingCause) (l : ℕ) → Broken mode s c l → read_set T r (suc k) ms (Slots hand) mode s ≡ Result (suc k) came hand s
    unfolding read_set is_single manner then
    at_broken c l end = rw (end, items_broken T r H k 0 came hand mode s refl c l end) refl

    module _ (end : More mode s) where
      set_full : some_of (pending came 0 ms) ≡ false → read_set T r (suc k) ms (Slots hand) mode s ≡ refused Trailing (length s)
      unfolding read_set if
      set_full e = rw (end, full_came came d, e) refl

      set_more : some_of (pending came 0 ms) ≡ true → read_set T r (suc k) ms (Slots hand) mode s
          ≡ then (Put came T r s 0 (Slots hand) (first (Begun came T r s) (pending came 0 ms))) λ us s₁. read_set T r k ms us mode s₁
      unfolding read_set if
      set_more e = rw (end, full_came came d, e, place_came came T r s d) refl

      module _ (some_left : some_of (pending came 0 ms) ≡ true) where
        abbrev The : Option Placed
        The = first (Begun came T r s) (pending came 0 ms)

        abbrev On : List (Option Value) → List ℕ → Answer ReadingCause (List (Option Value))
        On us s₁ = read_set T r k ms us mode s₁

        on_found : (x : Placed) → The ≡ some x → (a : Answer ReadingCause Value) → r x.1.type s ≡ a
            → then (then a λ v s₁. got (set_at (Slots hand) (x.0 - 0) (some v)) s₁) On ≡ Result (suc k) came hand s
        unfolding then is_single manner parts_of within following noted
        on_found x f (refused c l) e = rw (items_refused T r H k 0 came hand mode s refl end some_left x f c l e) refl
        on_found x f (got v u) e =
            let y : Found came 0 ms x = found_of came 0 ms _ x (awaits_found H 0 came (λ x. begun T x.1.type s)) f in
            let p = y.place in
            let l = y.low in
            let q : x.0 - 0 ≡ x.0 = omega arith in
            let z = filled_snoc hand x.0 v (nothing ms) in
            let w : length ms ≤ length (set_at came x.0 1) = rw length-set wide in
            let g : CameAs (set_at came x.0 1) 0 ms (Slots (hand ++ ((x.0, v) ∷ []))) =
            rw z (came_set came x.0 x.0 v (omega arith) (omega arith) (omega arith) d) in
            rw (q, items_turn T r H k 0 came hand mode s refl end some_left x f v u e, ← z) (again (set_at came x.0 1) (hand ++ ((x.0, v) ∷ [])) u w g)

        on_next : (o : Option Placed) → The ≡ o → then (Put came T r s 0 (Slots hand) o) On ≡ Result (suc k) came hand s
        unfolding is_single manner parts_of within
        on_next none f = unawaited_on s On ∙ sym (rw (items_unawaited T r H k 0 came hand mode s refl end some_left f) (unawaited_on s _))
        on_next (some x) f = on_found x f (r x.1.type s) refl

      at_more : read_set T r (suc k) ms (Slots hand) mode s ≡ Result (suc k) came hand s
      unfolding is_single manner parts_of then
      at_more =
          test (some_of (pending came 0 ms))
          (λ e. set_more e ∙ on_next e (first (Begun came T r s) (pending came 0 ms)) refl)
          λ e. set_full e ∙ sym (rw (items_full T r H k 0 came hand mode s refl end e) refl)

  at_ending_lem : (k : ℕ) (came : List ℕ) (hand : Hand) (s : List ℕ) → length ms ≤ length came → CameAs came 0 ms (Slots hand) → Agrees k → Ending mode s
      → read_set T r (suc k) ms (Slots hand) mode s ≡ Result (suc k) came hand s
  at_ending_lem k came hand s wide d again (over u z end) = at_the_end k came hand s wide d again u end
  at_ending_lem k came hand s wide d again (broken c l z end) = at_broken k came hand s wide d again c l end
  at_ending_lem k came hand s wide d again (more end) = at_more k came hand s wide d again end

  pub set_items : (k : ℕ) → Agrees k
  unfolding read_set read_items then
  set_items zero came hand s wide d = refl
  set_items (suc k) came hand s wide d = at_ending_lem k came hand s wide d (set_items k) (ending mode s)
