-- The members of a SEQUENCE, read member by member, are read item by item: passing over optional members is what the awaited parts say.
-- Assumes nothing.
use lib.ListN.{length, get_or, take, drop, set as set_at, length-set, take-append-drop}
use lib.Seq.{append_snoc, drop-set-lt, take-suc, take-suc-set, get_or-drop}
use mathlib.Core.Bool.{Bool, true, false, not, ◌||◌}
use mathlib.Core.List.{List, [], ◌∷◌, ◌++◌}
use mathlib.Core.Option.{Option, some, none}
use mathlib.Core.Path.{◌≡◌, refl, sym, ap, ◌∙◌}
use native.Mathlib.Nat.{add-zero}
use native.Mathlib.Omega.{arith}
use Prim.Native.Nat.{ℕ, zero, suc, ◌<◌}
use Rattle.x690.specs.declared.ReadingCause.{ReadingCause}
use Rattle.x690.specs.declared.ReadingCause.TheVariants.{NotAwaited, Trailing}
use Rattle.octets.specs.Answer.{Answer, got, refused, then, if}
use Rattle.octets.specs.Lists.{any}
use Rattle.octets.proofs.Answer.{got_holds}
use Rattle.octets.proofs.Tests.{test}
use Rattle.x690.specs.Reading.{Mode}
use Rattle.table.specs.Syntax.{Member, Sequence, Table}
use Rattle.coding.specs.Value.{Value}
use Rattle.coding.specs.Reading.{begun, not_awaited, unwanted, nothing, read_sequence}
use Rattle.coding.proofs.FirstTags.{Good}
use Rattle.reader.specs.Items.{Holder, inside, manner, parts_of, Placed, pending, up_to_mandatory, within, some_of, following, noted, is_single}
use Rattle.reader.specs.Items.{first, Hand, read_items, filled}
use Rattle.reader.proofs.Items.{Over, Broken, More, Clear, Shortens, then_same, drop_tail, drop_later, Ending, over, broken, more, ending}
use Rattle.reader.proofs.Items.{begun_zero, unawaited_on, pending_free, Found, found_of, awaits_found, items_over, items_lacking, items_broken}
use Rattle.reader.proofs.Items.{items_full, items_unawaited, items_refused, items_turn}

-- what is in hand, with one more
pub filled_snoc : (hand : Hand) (p : ℕ) (v : Value) (os : List (Option Value)) → filled (hand ++ ((p, v) ∷ [])) os ≡ set_at (filled hand os) p (some v)
unfolding filled
filled_snoc [] p v os = refl
filled_snoc (x ∷ hand) p v os = filled_snoc hand p v (set_at os x.0 (some x.1))

pub filled_length : (hand : Hand) (os : List (Option Value)) → length (filled hand os) ≡ length os
unfolding filled
filled_length [] os = refl
filled_length (x ∷ hand) os = filled_length hand (set_at os x.0 (some x.1)) ∙ length-set os x.0 (some x.1)

pub nothing_length : (ms : List Member) → length (nothing ms) ≡ length ms
unfolding nothing
nothing_length [] = refl
nothing_length (m ∷ ms) = ap suc (nothing_length ms)

nothing_drop : (j : ℕ) (ms : List Member) → drop j (nothing ms) ≡ nothing (drop j ms)
unfolding nothing
nothing_drop zero ms = refl
nothing_drop (suc j) [] = refl
nothing_drop (suc j) (m ∷ ms) = nothing_drop j ms

append_none : {A : Type 0} (l : List A) → l ++ [] ≡ l
append_none [] = refl
append_none (x ∷ l) = ap (λ (w : List _). x ∷ w) (append_none l)

module _ (T : Table) (r : ℕ → List ℕ → Answer ReadingCause Value) (came : List ℕ) (clear : Clear came) (mode : Mode) (s : List ℕ) where
  -- at the end of the contents
  module _ (none_begun : (t : ℕ) → begun T t s ≡ false) where
    sequence_over : (u : List ℕ) → Over mode s u → (l : List Member) (j : ℕ) (os : List (Option Value)) (w : Bool)
        → read_sequence T r l os w mode s ≡ if (any (λ x. not x.1.optional) (pending came j l)) (refused NotAwaited (length s)) λ _. got (os ++ nothing l) u
    unfolding read_sequence pending any nothing if
    sequence_over u end [] j os w = rw (end, append_none) refl
    sequence_over u end (m ∷ l) j os w =
        rw (none_begun m.type, pending_free came j m l (clear j))
        (test m.optional
        (λ o. rw o (sequence_over u end l (suc j) (os ++ (none ∷ [])) true ∙ rw (append_snoc os none (nothing l)) refl))
        λ o. rw (o, end) refl)

    sequence_broken : (c : ReadingCause) (k : ℕ) → Broken mode s c k → (l : List Member) (os : List (Option Value)) (w : Bool)
        → read_sequence T r l os w mode s ≡ refused c k
    unfolding read_sequence if
    sequence_broken c k end [] os w = rw end refl
    sequence_broken c k end (m ∷ l) os w =
        rw (none_begun m.type)
        (test m.optional
        (λ o. rw o (sequence_broken c k end l (os ++ (none ∷ [])) true))
        λ o. rw (o, end) refl)

  -- where an item follows: the members F, of which those from the j-th on are missing
  module _ (ms : List Member) (F : List (Option Value)) (same : length F ≡ length ms) (end : More mode s) where
    abbrev Next : Bool → List Member → Option Placed → Answer ReadingCause (List (Option Value))
    Next w l none = unwanted (w || some_of l) s
    Next w l (some x) = then (r x.1.type s) λ v s₁. read_sequence T r (drop (suc x.0) ms) (take (suc x.0) (set_at F x.0 (some v))) false mode s₁

    next_any : (w : Bool) (m : Member) (l : List Member) (o : Option Placed) → Next true l o ≡ Next w (m ∷ l) o
    unfolding some_of
    next_any true m l none = refl
    next_any false m l none = refl
    next_any w m l (some x) = refl

    shorter : {A : Type 0} (l : List A) (j : ℕ) (x : A) (w : List A) → drop j l ≡ x ∷ w → j < length l
    shorter [] zero x w e = let h = ap length e in absurd (omega arith)
    shorter [] (suc j) x w e = let h = ap length e in absurd (omega arith)
    shorter (y ∷ l) zero x w e = omega arith
    shorter (y ∷ l) (suc j) x w e = let h = shorter l j x w e in omega arith

    -- one member
    module _ (m : Member) (l : List Member) (os : List (Option Value)) (w : Bool) where
      member_begun : begun T m.type s ≡ true
          → read_sequence T r (m ∷ l) os w mode s ≡ then (r m.type s) λ v s₁. read_sequence T r l (os ++ (some v ∷ [])) false mode s₁
      unfolding read_sequence if
      member_begun b = rw b refl

      member_passed : begun T m.type s ≡ false → m.optional ≡ true
          → read_sequence T r (m ∷ l) os w mode s ≡ read_sequence T r l (os ++ (none ∷ [])) true mode s
      unfolding read_sequence if
      member_passed b o = rw (b, o) refl

      member_missing : begun T m.type s ≡ false → m.optional ≡ false → read_sequence T r (m ∷ l) os w mode s ≡ not_awaited s
      unfolding read_sequence if
      member_missing b o = rw (b, o, end) refl

    abbrev Reached : ℕ → List Member → Option Placed
    Reached j l = first (λ x. begun T x.1.type s) (up_to_mandatory (pending came j l))

    module _ (j : ℕ) (m : Member) (l : List Member) where
      reached_here : begun T m.type s ≡ true → Reached j (m ∷ l) ≡ some (j, m)
      unfolding up_to_mandatory first if
      reached_here b = rw (pending_free came j m l (clear j), b) refl

      reached_later : begun T m.type s ≡ false → m.optional ≡ true → Reached j (m ∷ l) ≡ Reached (suc j) l
      unfolding up_to_mandatory first if
      reached_later b o = rw (pending_free came j m l (clear j), b, o) refl

      reached_none : begun T m.type s ≡ false → m.optional ≡ false → Reached j (m ∷ l) ≡ none
      unfolding up_to_mandatory first if
      reached_none b o = rw (pending_free came j m l (clear j), b, o) refl

    unwanted_any : (w : Bool) → not_awaited {A = List (Option Value)} s ≡ unwanted (w || true) s
    unfolding unwanted
    unwanted_any true = refl
    unwanted_any false = refl

    member_last : (j : ℕ) (w : Bool) → read_sequence T r [] (take j F) w mode s ≡ Next w [] (Reached j [])
    unfolding read_sequence pending up_to_mandatory first some_of
    member_last j true = rw end refl
    member_last j false = rw end refl

    sequence_more : (l : List Member) (j : ℕ) (w : Bool) → drop j ms ≡ l → drop j F ≡ nothing l
        → read_sequence T r l (take j F) w mode s ≡ Next w l (Reached j l)
    unfolding nothing some_of
    sequence_more [] j w e f = member_last j w
    sequence_more (m ∷ l) j w e f =
        let h : j < length F = omega (arith, shorter ms j m l e) in
        let x = drop_tail ms j m l e in
        let y = drop_tail F j none (nothing l) f in
        let z : get_or F j none ≡ none = rw (add-zero j) at (sym (get_or-drop j F 0 none) ∙ ap (λ (q : List (Option Value)). get_or q 0 none) f) in
        test (begun T m.type s)
        (λ b.
        member_begun m l (take j F) w b
        ∙ then_same (r m.type s) _ _ (λ v s₁ _. rw (← take-suc-set F j (some v) h, ← x) refl)
        ∙ ap (Next w (m ∷ l)) (sym (reached_here j m l b)))
        λ b.
        test m.optional
        (λ o.
        let q : take j F ++ (none ∷ []) ≡ take (suc j) F = rw (take-suc F j none h, z) refl in
        member_passed m l (take j F) w b o
        ∙ ap (λ (q : List (Option Value)). read_sequence T r l q true mode s) q
        ∙ sequence_more l (suc j) true x y
        ∙ next_any w m l (Reached (suc j) l)
        ∙ ap (Next w (m ∷ l)) (sym (reached_later j m l b o)))
        λ o. member_missing m l (take j F) w b o ∙ unwanted_any w ∙ ap (Next w (m ∷ l)) (sym (reached_none j m l b o))

-- item by item; r leaves fewer octets than it was given
module _ (T : Table) (good : Good T) (r : ℕ → List ℕ → Answer ReadingCause Value) (short : Shortens r)
    (ms : List Member) (came : List ℕ) (clear : Clear came) (mode : Mode) where
  abbrev H : Holder
  H = inside (Sequence ms)

  abbrev Slots : Hand → List (Option Value)
  Slots hand = filled hand (nothing ms)

  abbrev Result : ℕ → ℕ → Hand → List ℕ → Answer ReadingCause (List (Option Value))
  Result k j hand s = then (read_items T r H k j came hand mode s) λ hand u. got (Slots hand) u

  got_result : (k j : ℕ) (hand : Hand) (s : List ℕ) (x : Hand) (u : List ℕ) → read_items T r H k j came hand mode s ≡ got x u
      → Result k j hand s ≡ got (Slots x) u
  unfolding then
  got_result k j hand s x u e = rw e refl

  refused_result : (k j : ℕ) (hand : Hand) (s : List ℕ) (c : ReadingCause) (l : ℕ) → read_items T r H k j came hand mode s ≡ refused c l → Result k j hand s ≡ refused c l
  unfolding then
  refused_result k j hand s c l e = rw e refl

  module _ (k j : ℕ) (hand : Hand) (s : List ℕ) (rest : drop j (Slots hand) ≡ drop j (nothing ms)) where
    abbrev Left : List Placed
    Left = pending came j (drop j ms)

    at_over : (u : List ℕ) → get_or s 0 0 ≡ 0 → Over mode s u
        → read_sequence T r (drop j ms) (take j (Slots hand)) false mode s ≡ Result (suc k) j hand s
    unfolding if is_single manner parts_of
    at_over u z end =
        sequence_over T r came clear mode s (λ t. begun_zero T good t s z) u end (drop j ms) j (take j (Slots hand)) false
        ∙ test (any (λ x. not x.1.optional) Left)
        (λ e. rw e (sym (refused_result (suc k) j hand s NotAwaited (length s) (items_lacking T r H k j came hand mode s refl u end e))))
        λ e.
        let q : take j (Slots hand) ++ nothing (drop j ms) ≡ Slots hand = rw (← nothing_drop j ms, ← rest) (take-append-drop j (Slots hand)) in
        rw (e, q) (sym (got_result (suc k) j hand s hand u (items_over T r H k j came hand mode s refl u end e)))

    at_broken : (c : ReadingCause) (l : ℕ) → get_or s 0 0 ≡ 0 → Broken mode s c l
        → read_sequence T r (drop j ms) (take j (Slots hand)) false mode s ≡ Result (suc k) j hand s
    unfolding is_single manner
    at_broken c l z end =
        sequence_broken T r came clear mode s (λ t. begun_zero T good t s z) c l end (drop j ms) (take j (Slots hand)) false
        ∙ sym (refused_result (suc k) j hand s c l (items_broken T r H k j came hand mode s refl c l end))

  unawaited_result : (k j : ℕ) (hand : Hand) (s : List ℕ) → read_items T r H k j came hand mode s ≡ not_awaited s → Result k j hand s ≡ not_awaited s
  unawaited_result k j hand s e = rw e (unawaited_on s (λ hand u. got (Slots hand) u))

  some_left : (l : List Member) (j : ℕ) → some_of (pending came j l) ≡ some_of l
  unfolding some_of pending
  some_left [] j = refl
  some_left (m ∷ l) j = rw (pending_free came j m l (clear j)) refl

  abbrev Agrees : ℕ → Type 0
  Agrees k = (j : ℕ) (hand : Hand) (s : List ℕ) → length s < k → drop j (Slots hand) ≡ drop j (nothing ms)
      → read_sequence T r (drop j ms) (take j (Slots hand)) false mode s ≡ Result k j hand s

  module _ (k j : ℕ) (hand : Hand) (s : List ℕ) (few : length s < suc k) (rest : drop j (Slots hand) ≡ drop j (nothing ms)) (again : Agrees k)
      (end : More mode s) where
    as_long : length (Slots hand) ≡ length ms
    as_long = filled_length hand (nothing ms) ∙ nothing_length ms

    abbrev Then : Placed → Value → List ℕ → Answer ReadingCause (List (Option Value))
    Then x v s₁ = read_sequence T r (drop (suc x.0) ms) (take (suc x.0) (set_at (Slots hand) x.0 (some v))) false mode s₁

    -- an item of a member
    on_found : (m : Member) (l : List Member) → drop j ms ≡ m ∷ l → (x : Placed)
        → Reached T r came clear mode s ms (Slots hand) as_long end j (drop j ms) ≡ some x
        → (a : Answer ReadingCause Value) → r x.1.type s ≡ a → then a (Then x) ≡ Result (suc k) j hand s
    unfolding then is_single manner parts_of within following noted some_of
    on_found m l e x f (refused c n) d =
        sym (refused_result (suc k) j hand s c n (items_refused T r H k j came hand mode s refl end (some_left (drop j ms) j ∙ ap some_of e) x f c n d))
    on_found m l e x f (got v u) d =
        let y : Found came j (drop j ms) x = found_of came j (drop j ms) _ x (awaits_found H j came (λ x. begun T x.1.type s)) f in
        let z = y.place in
        let q = filled_snoc hand x.0 v (nothing ms) in
        let w : drop (suc x.0) (Slots (hand ++ ((x.0, v) ∷ []))) ≡ drop (suc x.0) (nothing ms) =
        rw (q, drop-set-lt (suc x.0) (Slots hand) x.0 (some v) (omega arith))
        (drop_later (Slots hand) (nothing ms) j (suc x.0) (omega arith) rest) in
        let g = got_holds (short x.1.type s) d in
        rw (items_turn T r H k j came hand mode s refl end (some_left (drop j ms) j ∙ ap some_of e) x f v u d, ← q)
        (again (suc x.0) (hand ++ ((x.0, v) ∷ [])) u (omega arith) w)

    abbrev The : Option Placed
    The = Reached T r came clear mode s ms (Slots hand) as_long end j (drop j ms)

    on_next : (l : List Member) → drop j ms ≡ l → (o : Option Placed) → The ≡ o
        → Next T r came clear mode s ms (Slots hand) as_long end false l o ≡ Result (suc k) j hand s
    unfolding is_single manner parts_of within some_of unwanted
    on_next [] e none f =
        sym (refused_result (suc k) j hand s Trailing (length s) (items_full T r H k j came hand mode s refl end (some_left (drop j ms) j ∙ ap some_of e)))
    on_next [] e (some x) f =
        let y : Found came j (drop j ms) x = found_of came j (drop j ms) _ x (awaits_found H j came (λ x. begun T x.1.type s)) f in
        let z : length (drop j ms) ≡ 0 = ap length e in
        absurd (omega (arith, y.low))
    on_next (m ∷ l) e none f =
        sym (unawaited_result (suc k) j hand s (items_unawaited T r H k j came hand mode s refl end (some_left (drop j ms) j ∙ ap some_of e) f))
    on_next (m ∷ l) e (some x) f = on_found m l e x f (r x.1.type s) refl

    at_more : read_sequence T r (drop j ms) (take j (Slots hand)) false mode s ≡ Result (suc k) j hand s
    at_more =
        sequence_more T r came clear mode s ms (Slots hand) as_long end (drop j ms) j false refl (rest ∙ nothing_drop j ms)
        ∙ on_next (drop j ms) refl The refl

  at_ending_lem : (k j : ℕ) (hand : Hand) (s : List ℕ) → length s < suc k → drop j (Slots hand) ≡ drop j (nothing ms) → Agrees k → Ending mode s
      → read_sequence T r (drop j ms) (take j (Slots hand)) false mode s ≡ Result (suc k) j hand s
  at_ending_lem k j hand s h rest again (over u z end) = at_over k j hand s rest u z end
  at_ending_lem k j hand s h rest again (broken c l z end) = at_broken k j hand s rest c l z end
  at_ending_lem k j hand s h rest again (more end) = at_more k j hand s h rest again end

  pub sequence_items : (k : ℕ) → Agrees k
  sequence_items zero j hand s h rest = absurd (omega arith)
  sequence_items (suc k) j hand s h rest = at_ending_lem k j hand s h rest (sequence_items k) (ending mode s)
