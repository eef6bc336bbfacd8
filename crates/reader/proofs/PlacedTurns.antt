-- Items that are accepted, one after another: whether contents are over, which part comes next, its value, and what is left.
-- Assumes nothing.
use mathlib.Core.Bool.{Bool, true, false, not, ◌&&◌, ◌||◌, false≢true, true≢false}
use mathlib.Core.List.{List, [], ◌∷◌, ◌++◌, append-nil}
use mathlib.Core.Option.{Option, some, none}
use mathlib.Core.Path.{◌≡◌, refl, sym, ap, ◌∙◌}
use Prim.Native.Nat.{ℕ, zero, suc, ◌+◌, ◌-◌, ◌≤◌, ◌<◌}
use native.Mathlib.Omega.{arith}
use borrow.Author.Tests.{ne_eqb}
use lib.Dec.{eqb}
use lib.ListN.{length, get_or, drop, length-append, length-drop}
use lib.Seq.{append_snoc, sets, length-sets, drop-drop, get_or-drop}
use Rattle.x690.specs.declared.ReadingCause.{ReadingCause}
use Rattle.x690.specs.declared.ReadingCause.TheVariants.{NotAwaited, Trailing}
use Rattle.octets.specs.Answer.{Answer, got, refused, then, if, none_left}
use Rattle.octets.proofs.Answer.{Holds, yields, refuses, then_holds, if_holds, map_holds, got_holds, refused≢got, got_value, got_rest}
use Rattle.octets.proofs.Tests.{test}
use Rattle.x690.specs.Reading.{Mode, at_end}
use Rattle.x690.proofs.Items.{at_end_holds}
use Rattle.table.specs.Syntax.{Plain, Sequence, Set, SequenceOf, SetOf, Choice, Table}
use Rattle.coding.specs.Value.{Value, octets}
use Rattle.coding.specs.Reading.{begun, not_awaited, read_value}
use Rattle.coding.proofs.Sound.{not_awaited_lem}
use Rattle.coding.proofs.Refusals.{value_shorter}
use Rattle.ber.specs.Told.{mode}
use Rattle.reader.specs.Items.{Holder, inside, message, in_turn, manner, parts_of, Placed, awaits}
use Rattle.reader.specs.Items.{remains, lacks, since, following, noted, is_single, Hand, read_part, next, read_items, assemble, node_size}
use Rattle.reader.specs.Items.{blank}
use Rattle.reader.specs.Placing.{bodies, kind_of, holds_one, onward, said, finished_in, end_at}
use Rattle.reader.proofs.Items.{found_of, awaits_found, first_passes}
use Rattle.reader.proofs.ItemsGoing.{since_first}
use Rattle.reader.proofs.PlacedNodes.{Row, row_none, row_later, row_turn, Standing, stands_first, Whole, whole_one, whole_finished}
use Rattle.reader.proofs.PlacedNodes.{bodies_append, bodies_snoc, members_long, list_long, one_long}
use native.Mathlib.Nat.{add-zero}

-- whether contents that are accepted are over at s, by its first octet
abbrev pub over_at : Bool → List ℕ → Bool
over_at k s = none_left s || (k && eqb (get_or s 0 0) 0)

-- what follows them
abbrev pub behind_end : Bool → List ℕ → List ℕ
behind_end true s = drop 2 s
behind_end false s = s

-- at a place of m
module _ (m : List ℕ) (at : ℕ) where
  pub over_at_lem : (b o : Bool) → o ≡ (none_left (drop at m) || (b && eqb (get_or m at 0) 0)) → o ≡ over_at b (drop at m)
  over_at_lem b o e =
      let q : get_or (drop at m) 0 0 ≡ get_or m at 0 = get_or-drop at m 0 0 ∙ ap (λ (i : ℕ). get_or m i 0) (add-zero at) in
      e ∙ rw q refl

  pub end_at_lem : (b : Bool) → drop (end_at b at) m ≡ behind_end b (drop at m)
  end_at_lem true = sym (drop-drop 2 at m)
  end_at_lem false = refl

module _ {A : Type 0} (f : List ℕ → Answer ReadingCause A) (x : Unit {0} → Answer ReadingCause A) (a : A) (u : List ℕ) where
  pub end_over : (k : Bool) (s : List ℕ) → at_end (mode k) s f x ≡ got a u → over_at k s ≡ true → (f (behind_end k s) ≡ got a u) × (k ≡ true → 2 ≤ length s)
  unfolding at_end if none_left
  end_over false [] e o = (e, λ z. absurd (false≢true z))
  end_over false (b ∷ s) e o = absurd (false≢true o)
  end_over true [] e o = refused≢got e
  end_over true (zero ∷ []) e o = refused≢got e
  end_over true (zero ∷ zero ∷ s) e o = (e, λ z. omega arith)
  end_over true (zero ∷ suc c ∷ s) e o = refused≢got (rw (ne_eqb (suc c) 0 (λ z. omega arith)) at e)
  end_over true (suc b ∷ s) e o = absurd (false≢true (rw (ne_eqb (suc b) 0 (λ z. omega arith)) at o))

  pub end_on : (k : Bool) (s : List ℕ) → at_end (mode k) s f x ≡ got a u → over_at k s ≡ false → (x tt ≡ got a u) × (0 < length s)
  unfolding at_end if none_left
  end_on false [] e o = absurd (true≢false o)
  end_on false (b ∷ s) e o = (e, omega arith)
  end_on true [] e o = absurd (true≢false o)
  end_on true (zero ∷ s) e o = absurd (true≢false o)
  end_on true (suc b ∷ s) e o = (rw (ne_eqb (suc b) 0 (λ z. omega arith)) at e, omega arith)

-- the first that passes does
-- a part that an item begins
pub record Awaited (T : Table) (h : Holder) (j : ℕ) (came s : List ℕ) (x : Placed) : Type 0 where
  pub least : j ≤ x.0
  pub most : x.0 < length (parts_of h)
  pub is : drop x.0 (parts_of h) ≡ x.1 ∷ drop (suc x.0) (parts_of h)
  pub begins : begun T x.1.type s ≡ true

pub awaited : (T : Table) (r : ℕ → List ℕ → Answer ReadingCause Value) (h : Holder) (j : ℕ) (came s : List ℕ) (x : Placed) → j ≤ length (parts_of h)
    → next T h j came s ≡ some x → Awaited T h j came s x
awaited T r h j came s x l e =
    let F = found_of came j (drop j (parts_of h)) (next T h j came s) x (awaits_found h j came (λ x. begun T x.1.type s)) e in
    let p : j + suc F.offset ≡ suc x.0 = omega (arith, F.place) in
    record {
      least = omega (arith, F.place);
      most = omega (arith, F.place, F.low, length-drop j (parts_of h));
      is = rw (drop-drop, ← F.place, drop-drop, p) at F.is;
      begins = first_passes (λ x. begun T x.1.type s) (awaits h j came) x e;
    }

-- an item of an accepted run: its part, its value, and the run behind it; one that is alone ends the run
pub record Turn (T : Table) (r : ℕ → List ℕ → Answer ReadingCause Value) (h : Holder) (k j : ℕ) (came : List ℕ) (hand : Hand) (md : Mode) (s : List ℕ) (all : Hand)
    (last : List ℕ) : Type 0 where
  pub part : Placed
  pub is : next T h j came s ≡ some part
  pub value : Value
  pub behind : List ℕ
  pub read : r part.1.type s ≡ got value behind
  pub goes_on : is_single (manner h) ≡ false
      → read_items T r h k (following (manner h) part.0) (noted (manner h) came part.0) (hand ++ ((part.0, value) ∷ [])) md behind ≡ got all last
  pub ends : is_single (manner h) ≡ true → (all ≡ hand ++ ((part.0, value) ∷ [])) × (last ≡ behind)

module _ (T : Table) (r : ℕ → List ℕ → Answer ReadingCause Value) (h : Holder) (j : ℕ) (came : List ℕ) (hand : Hand) (s : List ℕ) (all : Hand) (last : List ℕ) where
  -- what follows the reading of a part that is done
  record Reads (f : ℕ × Value → List ℕ → Answer ReadingCause Hand) : Type 0 where
    part : Placed
    is : next T h j came s ≡ some part
    value : Value
    behind : List ℕ
    read : r part.1.type s ≡ got value behind
    goes_on : f (part.0, value) behind ≡ got all last

  reads : (f : ℕ × Value → List ℕ → Answer ReadingCause Hand) → then (read_part T r (next T h j came s) s) f ≡ got all last → Reads f
  unfolding read_part then
  reads f e = go (next T h j came s) refl e
    where
      value : (x : Placed) → next T h j came s ≡ some x → (y : Answer ReadingCause Value) → r x.1.type s ≡ y
          → then (then (r x.1.type s) λ v s₁. got (x.0, v) s₁) f ≡ got all last → Reads f
      value x i (got v w) q e = record { part = x; is = i; value = v; behind = w; read = q; goes_on = rw q at e }
      value x i (refused c l) q e = refused≢got (rw q at e)

      go : (y : Option Placed) → next T h j came s ≡ y → then (read_part T r y s) f ≡ got all last → Reads f
      go none i e =
          let z : Holds (λ (a : Hand) (u : List ℕ). ⊥) (then {A = ℕ × Value} (not_awaited s) f) = then_holds {P = λ a u. ⊥} (not_awaited_lem s)
          (λ a u z. absurd z) in
          absurd (got_holds z e)
      go (some x) i e = value x i (r x.1.type s) refl e

  module _ (k : ℕ) (b : Bool) (W : read_items T r h (suc k) j came hand (mode b) s ≡ got all last) where
    lone_turn : is_single (manner h) ≡ true → Turn T r h k j came hand (mode b) s all last
    unfolding read_items if
    lone_turn o =
        let R = reads (λ x s₁. got (hand ++ (x ∷ [])) s₁) (rw o at W) in
        record {
          part = R.part;
          is = R.is;
          value = R.value;
          behind = R.behind;
          read = R.read;
          goes_on = λ z. absurd (true≢false (sym o ∙ z));
          ends = λ z. (sym (got_value R.goes_on), sym (got_rest R.goes_on));
        }

    abbrev Ended : List ℕ → Answer ReadingCause Hand
    Ended u = if (lacks h j came) (refused NotAwaited (length s)) λ _. got hand u

    abbrev More : Unit {0} → Answer ReadingCause Hand
    More _ =
        if (not (remains h j came)) (refused Trailing (length s)) λ _.
        then (read_part T r (next T h j came s) s) λ x s₁.
        read_items T r h k (following (manner h) x.0) (noted (manner h) came x.0) (hand ++ (x ∷ [])) (mode b) s₁

    stage : is_single (manner h) ≡ false → at_end (mode b) s Ended More ≡ got all last
    unfolding read_items if
    stage o = rw o at W

    many_turn : is_single (manner h) ≡ false → over_at b s ≡ false → Turn T r h k j came hand (mode b) s all last
    unfolding if
    many_turn o v =
        let e = (end_on Ended More all last b s (stage o) v).0 in
        let f = test (not (remains h j came)) (λ q. refused≢got (rw q at e)) λ q. rw q at e in
        let R = reads (λ x s₁. read_items T r h k (following (manner h) x.0) (noted (manner h) came x.0) (hand ++ (x ∷ [])) (mode b) s₁) f in
        record {
          part = R.part;
          is = R.is;
          value = R.value;
          behind = R.behind;
          read = R.read;
          goes_on = λ z. R.goes_on;
          ends = λ z. absurd (false≢true (sym o ∙ z));
        }

    -- contents go on, or hold one item
    pub turn : (is_single (manner h) ≡ false → over_at b s ≡ false) → Turn T r h k j came hand (mode b) s all last
    turn v = test (is_single (manner h)) (λ o. lone_turn o) λ o. many_turn o (v o)

    -- contents are over
    pub over : is_single (manner h) ≡ false → over_at b s ≡ true → (all ≡ hand) × (last ≡ behind_end b s) × (b ≡ true → 2 ≤ length s)
    unfolding if
    over o v =
        let (e, l) = end_over Ended More all last b s (stage o) v in
        test (lacks h j came)
        (λ q. refused≢got (rw q at e))
        λ q. let z = rw q at e in (sym (got_value z), sym (got_rest z), l)

-- there is fuel for what goes on
pub some_fuel : (T : Table) (r : ℕ → List ℕ → Answer ReadingCause Value) (h : Holder) (k j : ℕ) (came : List ℕ) (hand : Hand) (md : Mode) (s : List ℕ) (all : Hand)
    (last : List ℕ)
    → read_items T r h k j came hand md s ≡ got all last → k ≡ suc (k - 1)
unfolding read_items
some_fuel T r h zero j came hand md s all last e = refused≢got e
some_fuel T r h (suc k) j came hand md s all last e = omega arith

-- what is in hand stays
anything : {A : Type 0} (x : Answer ReadingCause A) → Holds (λ a u. Unit {0}) x
anything (got a u) = yields tt
anything (refused c l) = refuses

part_any : (T : Table) (r : ℕ → List ℕ → Answer ReadingCause Value) (x : Option Placed) (s : List ℕ) → Holds (λ a u. Unit {0}) (read_part T r x s)
part_any T r x s = anything (read_part T r x s)

pub onto : (T : Table) (r : ℕ → List ℕ → Answer ReadingCause Value) (h : Holder) (k j : ℕ) (came : List ℕ) (hand : Hand) (md : Mode) (s : List ℕ)
    → Holds (λ all u. (more : Hand) × (all ≡ hand ++ more)) (read_items T r h k j came hand md s)
unfolding read_items
onto T r h zero j came hand md s = refuses
onto T r h (suc k) j came hand md s =
    if_holds _ (λ o. then_holds (part_any T r (next T h j came s) s) λ x s₁ z. yields (x ∷ [], refl)) λ o _.
    at_end_holds md s (λ u e. if_holds _ (λ q. refuses) λ q _. yields ([], sym (append-nil hand))) λ _.
    if_holds _ (λ q. refuses) λ q _.
    then_holds (part_any T r (next T h j came s) s) λ x s₁ z.
    map_holds (onto T r h k (following (manner h) x.0) (noted (manner h) came x.0) (hand ++ (x ∷ [])) md s₁) λ all u y.
    (x ∷ y.0, y.1 ∙ append_snoc hand x y.0)

-- the members of a SEQUENCE come in the table's order
pub rows : (T : Table) (r : ℕ → List ℕ → Answer ReadingCause Value) (h : Holder) → manner h ≡ in_turn
    → (k j : ℕ) (came : List ℕ) (hand : Hand) (b : Bool) (s : List ℕ) (all : Hand) (last : List ℕ)
    → Row hand j → j ≤ length (parts_of h) → read_items T r h k j came hand (mode b) s ≡ got all last → Row all (length (parts_of h))
unfolding is_single following noted
rows T r h i zero j came hand b s all last R l W = let e = some_fuel T r h zero j came hand (mode b) s all last W in absurd (omega arith)
rows T r h i (suc k) j came hand b s all last R l W =
    let o : is_single (manner h) ≡ false = rw i refl in
    test (over_at b s)
    (λ v. let e = (over T r h j came hand s all last k b W o v).0 in rw e (row_later R (length (parts_of h)) l))
    λ v.
    let t = turn T r h j came hand s all last k b W (λ z. v) in
    let a = awaited T r h j came s t.part l t.is in
    rows T r h i k (suc t.part.0) came (hand ++ ((t.part.0, t.value) ∷ [])) b t.behind all last
    (row_turn (row_later R t.part.0 a.least) t.value)
    a.most
    (rw i at (t.goes_on o))

-- what the octets of an accepted value are, but for those of a SET
pub held_long : (T : Table) (r : ℕ → List ℕ → Answer ReadingCause Value) (h : Holder) → (kind_of h ≡ 0 → ⊥) → (kind_of h ≡ 17 → ⊥)
    → (k : ℕ) (b : Bool) (s : List ℕ) (all : Hand) (last : List ℕ)
    → read_items T r h (suc k) 0 blank [] (mode b) s ≡ got all last → length (octets (assemble h all)) ≡ node_size h + length (bodies all)
unfolding kind_of manner is_single
held_long T r (inside (Plain q)) n m k b s all last W = absurd (n refl)
held_long T r (inside (Sequence ms)) n m k b s all last W =
    members_long all (inside (Sequence ms)) refl (rows T r (inside (Sequence ms)) refl (suc k) 0 blank [] b s all last row_none (omega arith) W)
held_long T r (inside (Set ms)) n m k b s all last W = absurd (m refl)
held_long T r (inside (SequenceOf t)) n m k b s all last W = list_long 0 all (inside (SequenceOf t)) refl
held_long T r (inside (SetOf t)) n m k b s all last W = list_long 0 all (inside (SetOf t)) refl
held_long T r (inside (Choice ts)) n m k b s all last W =
    let t = turn T r (inside (Choice ts)) 0 blank [] s all last k b W (λ z. absurd (true≢false z)) in
    rw (t.ends refl).0 (one_long 0 (t.part.0, t.value) (inside (Choice ts)) refl)
held_long T r (message q) n m k b s all last W =
    let t = turn T r (message q) 0 blank [] s all last k b W (λ z. absurd (true≢false z)) in
    rw (t.ends refl).0 (one_long 0 (t.part.0, t.value) (message q) refl)

-- The loop that places items in the order in which they come. All that is read of m is `all`, and `last` is behind it; of this count items
-- are in hand, and the next stands at `at`.
pub record Placing (T : Table) (n : ℕ) (h : Holder) (b : Bool) (m : List ℕ) (all : Hand) (last first : List ℕ) (to : ℕ) (buf : List ℕ)
    (at next j count : ℕ) : Type 0 where
  pub hand : Hand
  pub fuel : ℕ
  pub whole : read_items T (read_value T n) h (suc fuel) j blank hand (mode b) (drop at m) ≡ got all last
  pub stands : Standing h first to hand [] j buf next
  pub many : count ≡ length hand
  pub few : count ≤ at
  pub low : at ≤ length m
  pub alone : holds_one (kind_of h) ≡ true → hand ≡ []
  pub from : since (manner h) j ≡ j
  pub room : to + node_size h + length (bodies all) ≤ length buf

module _ {T : Table} {n : ℕ} {h : Holder} {b : Bool} {m : List ℕ} {all : Hand} {last first : List ℕ} {to : ℕ} (kind : kind_of h ≡ 0 → ⊥)
    (no_set : kind_of h ≡ 17 → ⊥) where
  pub placing_first : (k : ℕ) → read_items T (read_value T n) h (suc k) 0 blank [] (mode b) m ≡ got all last
      → to + length (octets (assemble h all)) ≤ length first
      → {buf : List ℕ} {next : ℕ} → buf ≡ sets first to (said h 0 []) → next ≡ to + node_size h → Placing T n h b m all last first to buf 0 next 0 0
  placing_first k W l eb en =
      let z = held_long T (read_value T n) h kind no_set k b m all last W in
      record {
        hand = [];
        fuel = k;
        whole = W;
        stands = rw (eb, en) (stands_first h first to);
        many = refl;
        few = omega arith;
        low = omega arith;
        alone = λ e. refl;
        from = since_first (manner h);
        room = rw eb (omega (arith, length-sets first to (said h 0 [])));
      }

-- kinds and manners
single_is : (h : Holder) → (kind_of h ≡ 0 → ⊥) → is_single (manner h) ≡ holds_one (kind_of h)
unfolding kind_of manner is_single
single_is (inside (Plain q)) n = absurd (n refl)
single_is (inside (Sequence ms)) n = refl
single_is (inside (Set ms)) n = refl
single_is (inside (SequenceOf t)) n = refl
single_is (inside (SetOf t)) n = refl
single_is (inside (Choice ts)) n = refl
single_is (message q) n = refl

onward_is : (h : Holder) → (kind_of h ≡ 17 → ⊥) → is_single (manner h) ≡ false → (p : ℕ) → p < length (parts_of h)
    → (following (manner h) p ≡ onward (kind_of h) p) × (noted (manner h) blank p ≡ blank)
unfolding kind_of manner is_single following noted onward if parts_of
onward_is (inside (Plain q)) m o p l = absurd (true≢false o)
onward_is (inside (Sequence ms)) m o p l = (refl, refl)
onward_is (inside (Set ms)) m o p l = absurd (m refl)
onward_is (inside (SequenceOf t)) m o p l = (omega arith, refl)
onward_is (inside (SetOf t)) m o p l = (omega arith, refl)
onward_is (inside (Choice ts)) m o p l = absurd (true≢false o)
onward_is (message q) m o p l = absurd (true≢false o)

pub since_onward : (h : Holder) (p : ℕ) → since (manner h) (onward (kind_of h) p) ≡ following (manner h) p
unfolding kind_of manner since following onward if
since_onward (inside (Plain q)) p = refl
since_onward (inside (Sequence ms)) p = refl
since_onward (inside (Set ms)) p = refl
since_onward (inside (SequenceOf t)) p = refl
since_onward (inside (SetOf t)) p = refl
since_onward (inside (Choice ts)) p = refl
since_onward (message q) p = refl

module _ {T : Table} {n : ℕ} {h : Holder} {b : Bool} {m : List ℕ} {all : Hand} {last first : List ℕ} {to : ℕ} {buf : List ℕ} {at next j count : ℕ}
    (S : Placing T n h b m all last first to buf at next j count) (kind : kind_of h ≡ 0 → ⊥) where
  abbrev pub Its : Type 0
  Its = Turn T (read_value T n) h S.fuel j blank S.hand (mode b) (drop at m) all last

  -- another item comes
  pub placing_turn : (holds_one (kind_of h) ≡ false → over_at b (drop at m) ≡ false) → Its
  placing_turn v = turn T (read_value T n) h j blank S.hand (drop at m) all last S.fuel b S.whole (λ z. v (sym (single_is h kind) ∙ z))

  pub placing_awaited : (t : Its) → Awaited T h j blank (drop at m) t.part
  placing_awaited t = awaited T (read_value T n) h j blank (drop at m) t.part S.stands.within t.is

  more_of : (t : Its) → (more : Hand) × (all ≡ (S.hand ++ ((t.part.0, t.value) ∷ [])) ++ more)
  more_of t =
      test (is_single (manner h))
      (λ o. ([], (t.ends o).0 ∙ sym (append-nil (S.hand ++ ((t.part.0, t.value) ∷ [])))))
      λ o. got_holds (onto T (read_value T n) h S.fuel (following (manner h) t.part.0) (noted (manner h) blank t.part.0)
      (S.hand ++ ((t.part.0, t.value) ∷ [])) (mode b) t.behind) (t.goes_on o)

  -- there is room for its value
  pub placing_room : (t : Its) → next + length (octets t.value) ≤ length buf
  placing_room t =
      let (more, e) = more_of t in
      let p = t.part.0 in
      let v = t.value in
      let l = ap (λ (l : Hand). length (bodies l)) e ∙ ap length (bodies_append (S.hand ++ ((p, v) ∷ [])) more) ∙ length-append
      (bodies (S.hand ++ ((p, v) ∷ []))) (bodies more) in
      let k = ap length (bodies_snoc S.hand p v) ∙ length-append (bodies S.hand) (octets v) in
      omega (arith, S.room, rw append-nil at S.stands.reaches)

  pub placing_further : (t : Its) (end : ℕ) → end ≤ length m → t.behind ≡ drop end m → at < end
  placing_further t end l e =
      omega (arith, rw e at (got_holds (value_shorter T n t.part.1.type (drop at m)) t.read), length-drop at m, length-drop end m)

  module _ (t : Its) {buf₁ : List ℕ} {end next₁ : ℕ} (within : end ≤ length m) (behind : t.behind ≡ drop end m)
      (stands : Standing h first to (S.hand ++ ((t.part.0, t.value) ∷ [])) [] (onward (kind_of h) t.part.0) buf₁ next₁) where
    pub placing_next : (kind_of h ≡ 17 → ⊥) → holds_one (kind_of h) ≡ false → length buf₁ ≡ length buf
        → Placing T n h b m all last first to buf₁ end next₁ (onward (kind_of h) t.part.0) (count + 1)
    placing_next no_set o l =
        let z = single_is h kind ∙ o in
        let p = t.part.0 in
        let (e, f) = onward_is h no_set z p (placing_awaited t).most in
        let W = rw (e, f, behind) at (t.goes_on z) in
        let k = some_fuel T (read_value T n) h S.fuel (onward (kind_of h) p) blank (S.hand ++ ((p, t.value) ∷ [])) (mode b) (drop end m) all last W in
        record {
          hand = S.hand ++ ((p, t.value) ∷ []);
          fuel = S.fuel - 1;
          whole = rw (← k) W;
          stands = stands;
          many = rw length-append (omega (arith, S.many));
          few = omega (arith, S.few, placing_further t end within behind);
          low = within;
          alone = λ d. absurd (false≢true (sym o ∙ d));
          from = since_onward h p ∙ e;
          room = rw l S.room;
        }

    -- the one item
    pub placing_one : holds_one (kind_of h) ≡ true → Whole h first to all buf₁ next₁ × (last ≡ drop end m)
    placing_one o =
        let z = single_is h kind ∙ o in
        let (e, f) = t.ends z in
        let i = ap (λ (l : Hand). l ++ ((t.part.0, t.value) ∷ [])) (S.alone o) in
        (rw e (whole_one stands o (t.part.0, t.value) i), f ∙ behind)

  -- contents are over
  pub placing_over : holds_one (kind_of h) ≡ false → over_at b (drop at m) ≡ true → (end : ℕ) → drop end m ≡ behind_end b (drop at m)
      → (buf₁ : List ℕ) → buf₁ ≡ finished_in (kind_of h) j (length (parts_of h)) count buf to → Whole h first to all buf₁ next × (last ≡ drop end m)
  placing_over o v end d buf₁ e =
      let (a, f, g) = over T (read_value T n) h j blank S.hand (drop at m) all last S.fuel b S.whole (single_is h kind ∙ o) v in
      (rw a (whole_finished S.stands count buf₁ o kind S.many e), f ∙ sym d)

  -- where they end
  pub placing_end : holds_one (kind_of h) ≡ false → over_at b (drop at m) ≡ true → b ≡ true → at + 2 ≤ length m
  placing_end o v e =
      let (a, f, g) = over T (read_value T n) h j blank S.hand (drop at m) all last S.fuel b S.whole (single_is h kind ∙ o) v in
      omega (arith, g e, length-drop at m, S.low)
