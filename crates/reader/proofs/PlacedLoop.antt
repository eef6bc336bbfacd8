-- The loop that places the items of any holder, by ways out: in the order in which they come or, of a SET, in the table's order.
-- Assumes nothing.
use mathlib.Core.Bool.{Bool, true, false, false≢true}
use mathlib.Core.List.{List, [], ◌∷◌, ◌++◌}
use mathlib.Core.Option.{some, some-injective}
use mathlib.Core.Path.{◌≡◌, refl, sym, ap, ◌∙◌}
use Prim.Native.Nat.{ℕ, suc, ◌+◌, ◌-◌, ◌*◌, ◌≤◌, ◌<◌}
use native.Mathlib.Omega.{arith}
use lib.Dec.{eqb}
use lib.ListN.{length, get_or, take, drop, replicate, length-set, length-append, length-drop}
use lib.Seq.{sets, length-sets, length-take-le}
use Rattle.octets.specs.Answer.{got, then, if}
use Rattle.octets.proofs.Answer.{got_holds}
use Rattle.octets.proofs.Tests.{test}
use Rattle.table.specs.Syntax.{Member, Set, Table}
use Rattle.coding.specs.Value.{Value, octets}
use Rattle.coding.specs.Reading.{nothing, read_value}
use Rattle.coding.proofs.FirstTags.{Good}
use Rattle.coding.proofs.Refusals.{value_shorter}
use Rattle.ber.specs.Told.{mode}
use Rattle.reader.specs.Items.{Holder, inside, manner, parts_of, Placed, since, Hand, next as next_part, read_items, filled, assemble}
use Rattle.reader.specs.Items.{node_size, blank}
use Rattle.reader.specs.Ways.{wrapped}
use Rattle.reader.specs.Placing.{kind_of, has_members, holds_one, onward, noted_in, absent_in, finished_in, said, way_octets}
use Rattle.reader.specs.Placing.{end_at, Spotted}
use Rattle.reader.specs.Placed.{Final}
use Rattle.reader.proofs.ItemsKinds.{blank_clear}
use Rattle.reader.proofs.ItemsSearch.{GoodHolder}
use Rattle.reader.proofs.PlacedNodes.{Standing, stands_more, stands_absent, stands_elsewhere, stands_turn}
use Rattle.reader.proofs.PlacedTurns.{over_at, Placing, placing_first, placing_turn, placing_awaited, placing_room, end_at_lem}
use Rattle.reader.proofs.PlacedTurns.{placing_next, placing_one, placing_over, placing_end}
use Rattle.reader.proofs.PlacedWays.{way_length, Inner, inner_under}
use Rattle.reader.proofs.PlacedSets.{Filling, filling_first, filling_there, filling_room, filling_next, filling_end}
use Rattle.reader.proofs.PlacedBegun.{value_begun}
use Rattle.reader.proofs.ItemsFound.{next_at}

-- before an item: of a SET ns are the notes
pub record Loop (T : Table) (n : ℕ) (h : Holder) (b : Bool) (m : List ℕ) (all : Hand) (last ns first : List ℕ) (to : ℕ) (buf : List ℕ)
    (at next j count : ℕ) : Type 0 where
  pub arriving : (kind_of h ≡ 17 → ⊥) → Placing T n h b m all last first to buf at next j count
  pub sorted : (ms : List Member) → h ≡ inside (Set ms) → Filling T n ms m ns (filled all (nothing ms)) first to buf next j
  pub few : kind_of h ≡ 17 → count ≤ j

-- the part that comes next, and what follows once its value stands there
pub record Comes (T : Table) (n : ℕ) (h : Holder) (m first : List ℕ) (to : ℕ) (After : List ℕ → ℕ → ℕ → ℕ → Type 0) (buf : List ℕ)
    (at next j : ℕ) : Type 0 where
  pub hand : Hand
  pub part : Placed
  pub value : Value
  pub behind : List ℕ
  pub read : read_value T n part.1.type (drop at m) ≡ got value behind
  pub stands : Standing h first to hand [] j buf next
  pub least : j ≤ part.0
  pub most : part.0 < length (parts_of h)
  pub found : next_part T h (since (manner h) j) blank (drop at m) ≡ some part
  pub alone : holds_one (kind_of h) ≡ true → hand ≡ []
  pub room : next + length (octets value) ≤ length buf
  pub low : at ≤ length m
  pub after : (buf₁ : List ℕ) (end next₁ : ℕ) → end ≤ length m → behind ≡ drop end m → length buf₁ ≡ length buf
      → Standing h first to (hand ++ ((part.0, value) ∷ [])) [] (onward (kind_of h) part.0) buf₁ next₁ → After buf₁ end next₁ (onward (kind_of h) part.0)

-- then the loop goes on, or the one item was all
abbrev pub Goes : Table → ℕ → Holder → Bool → List ℕ → Hand → List ℕ → List ℕ → List ℕ → ℕ → ℕ → List ℕ → ℕ → ℕ → ℕ → Type 0
Goes T n h b m all last ns first to count buf end next j =
    (holds_one (kind_of h) ≡ false → Loop T n h b m all last ns first to buf end next j (count + 1))
    × (holds_one (kind_of h) ≡ true → Final (assemble h all) last m first to buf end next)

no_set : (h : Holder) (ms : List Member) → h ≡ inside (Set ms) → kind_of h ≡ 17
unfolding kind_of
no_set h ms e = rw e refl

module _ {T : Table} {n : ℕ} {h : Holder} {b : Bool} {m : List ℕ} {all : Hand} {last first : List ℕ} {to : ℕ} {buf : List ℕ} {at next j count : ℕ} where
  -- in the order of arrival
  module _ (other : kind_of h ≡ 17 → ⊥) (kind : kind_of h ≡ 0 → ⊥) (S : Placing T n h b m all last first to buf at next j count) where
    pub arriving_comes : (ns : List ℕ) → (holds_one (kind_of h) ≡ false → over_at b (drop at m) ≡ false)
        → Comes T n h m first to (Goes T n h b m all last ns first to count) buf at next j
    arriving_comes ns v =
        let t = placing_turn S kind v in
        let A = placing_awaited S kind t in
        record {
          hand = S.hand;
          part = t.part;
          value = t.value;
          behind = t.behind;
          read = t.read;
          stands = S.stands;
          least = A.least;
          most = A.most;
          found = rw S.from t.is;
          alone = S.alone;
          room = placing_room S kind t;
          low = S.low;
          after = λ buf₁ end next₁ within behind l stands. (
            λ o. record {
              arriving = λ z. placing_next S kind t within behind stands other o l;
              sorted = λ ms e. absurd (other (no_set h ms e));
              few = λ e. absurd (other e);
            },
            λ o.
                let (W, e) = placing_one S kind t within behind stands o in
                record { ends = W.ends; buffer = W.buffer; within = within; behind = e },
          );
        }

    pub arriving_over : holds_one (kind_of h) ≡ false → over_at b (drop at m) ≡ true → (buf₁ : List ℕ)
        → buf₁ ≡ finished_in (kind_of h) j (length (parts_of h)) count buf to
        → Final (assemble h all) last m first to buf₁ (end_at b at) next
    arriving_over o v buf₁ e =
        let (W, f) = placing_over S kind o v (end_at b at) (end_at_lem m at b) buf₁ e in
        record { ends = W.ends; buffer = W.buffer; within = end_low b (placing_end S kind o v); behind = f }
      where
        end_low : (b : Bool) → (b ≡ true → at + 2 ≤ length m) → end_at b at ≤ length m
        end_low true h = h refl
        end_low false h = S.low

-- in the table's order
set_kind : (ms : List Member)
    → (kind_of (inside (Set ms)) ≡ 17) × (holds_one (kind_of (inside (Set ms))) ≡ false) × ((p : ℕ) → onward (kind_of (inside (Set ms))) p ≡ suc p)
unfolding kind_of onward if
set_kind ms = (refl, refl, λ p. refl)

module _ {T : Table} (good : Good T) {n : ℕ} {ms : List Member} (apart : GoodHolder T (inside (Set ms))) {b : Bool} {m : List ℕ} {all : Hand}
    {last ns first : List ℕ} {to : ℕ} {buf : List ℕ} {next j : ℕ}
    (S : Filling T n ms m ns (filled all (nothing ms)) first to buf next j) (l : j < length ms) (e : get_or ns j 0 ≡ 0 → ⊥) where
  pub sorted_comes : (count : ℕ) → count ≤ j
      → Comes T n (inside (Set ms)) m first to (Goes T n (inside (Set ms)) b m all last ns first to count) buf (get_or ns j 0 - 1) next j
  unfolding parts_of manner since
  sorted_comes count low =
      let t = filling_there S l e in
      let (k, o, q) = set_kind ms in
      let g = value_begun T good n t.member.type (drop (get_or ns j 0 - 1) m) t.value t.behind t.read in
      record {
        hand = S.hand;
        part = (j, t.member);
        value = t.value;
        behind = t.behind;
        read = t.read;
        stands = S.stands;
        least = omega arith;
        most = l;
        found = next_at T (inside (Set ms)) apart blank (drop (get_or ns j 0 - 1) m) (λ p _. blank_clear p) j t.member t.is (blank_clear j) g;
        alone = λ d. absurd (false≢true (sym o ∙ d));
        room = filling_room S l t;
        low = t.low;
        after = λ buf₁ end next₁ within behind f stands. (
          λ d. record {
            arriving = λ z. absurd (z k);
            sorted = λ us i. rw (q j) (filling_of (filling_next S l t (rw (q j) at stands) f) us i);
            few = λ z. rw (q j) (omega arith);
          },
          λ d. absurd (false≢true (sym o ∙ d)),
        );
      }
    where
      filling_of : {buf₁ : List ℕ} {next₁ : ℕ} → Filling T n ms m ns (filled all (nothing ms)) first to buf₁ next₁ (suc j) → (us : List Member)
          → inside (Set ms) ≡ inside (Set us)
          → Filling T n us m ns (filled all (nothing us)) first to buf₁ next₁ (suc j)
      filling_of F us i = let z : ms ≡ us = cc in rw z at F

-- all members of a SET were told of
pub sorted_end : {T : Table} {n : ℕ} {ms : List Member} (b : Bool) {m : List ℕ} {all : Hand} {last ns first : List ℕ} {to : ℕ} {buf : List ℕ} {next j : ℕ}
    → Filling T n ms m ns (filled all (nothing ms)) first to buf next j → j ≡ length ms
    → read_items T (read_value T n) (inside (Set ms)) (suc (length m)) 0 blank [] (mode b) m ≡ got all last → {end : ℕ} → Spotted T ms b m ns end
    → Final (assemble (inside (Set ms)) all) last m first to buf end next
unfolding assemble
sorted_end {n = n} b {all = all} {last = last} S e W L =
    let (l, f, N) = L n all last W in
    let (x, y) = filling_end S e in
    record { ends = x; buffer = y; within = l; behind = f }

-- the node was begun, and the members of a SET were located
pub loop_first : {T : Table} {n : ℕ} {h : Holder} {b : Bool} {m : List ℕ} {all : Hand} {last : List ℕ} (ns : List ℕ) {first : List ℕ} {to : ℕ}
    (end : ℕ) {buf : List ℕ} {next : ℕ}
    → (kind_of h ≡ 0 → ⊥)
    → read_items T (read_value T n) h (suc (length m)) 0 blank [] (mode b) m ≡ got all last → to + length (octets (assemble h all)) ≤ length first
    → ((ms : List Member) → h ≡ inside (Set ms) → Spotted T ms b m ns end) → buf ≡ sets first to (said h 0 [])
    → next ≡ to + node_size h
    → Loop T n h b m all last ns first to buf 0 next 0 0
unfolding assemble
loop_first {T} {n} {h} {b} {m} {all} {last} ns {first} {to} end {buf} {next} kind W room L eb en =
    record {
      arriving = λ other. placing_first kind other (length m) W room eb en;
      sorted = λ ms e. of_set ms (rw e at W) (rw e at room) (L ms e) (rw e at eb) (rw e at en);
      few = λ e. omega arith;
    }
  where
    of_set : (ms : List Member) → read_items T (read_value T n) (inside (Set ms)) (suc (length m)) 0 blank [] (mode b) m ≡ got all last
        → to + length (octets (assemble (inside (Set ms)) all)) ≤ length first → Spotted T ms b m ns end → buf ≡ sets first to (said (inside (Set ms)) 0 [])
        → next ≡ to + node_size (inside (Set ms)) → Filling T n ms m ns (filled all (nothing ms)) first to buf next 0
    of_set ms W room L eb en = filling_first (L n all last W).2 room eb en

-- the record that the item begins, on a way from the part, and where the rest of the value goes
pub record Ready (T : Table) (n : ℕ) (h : Holder) (m first : List ℕ) (to : ℕ) (After : List ℕ → ℕ → ℕ → ℕ → Type 0) (buf : List ℕ)
    (at next place u : ℕ) : Type 0 where
  pub hand : Hand
  pub value : Value
  pub behind : List ℕ
  pub way : List ℕ
  pub inner : Inner T n (drop at m) way u value behind
  pub stands : Standing h first to hand (way_octets way) place buf next
  pub most : place < length (parts_of h)
  pub alone : holds_one (kind_of h) ≡ true → hand ≡ []
  pub room : next + length (octets inner.value) ≤ length buf
  pub low : at ≤ length m
  pub after : (buf₁ : List ℕ) (end next₁ : ℕ) → end ≤ length m → behind ≡ drop end m → length buf₁ ≡ length buf
      → Standing h first to (hand ++ ((place, value) ∷ [])) [] (onward (kind_of h) place) buf₁ next₁ → After buf₁ end next₁ (onward (kind_of h) place)

module _ {T : Table} {n : ℕ} {h : Holder} {m first : List ℕ} {to : ℕ} {After : List ℕ → ℕ → ℕ → ℕ → Type 0} {buf : List ℕ} {at next j : ℕ}
    (C : Comes T n h m first to After buf at next j) where
  -- the part that the search found, with the nodes of the way to the record; members between were told of
  pub ready_found : (way : List ℕ) (d u : ℕ) (x : Placed) → next_part T h (since (manner h) j) blank (drop at m) ≡ some x → d ≤ length way
      → read_value T n x.1.type (drop at m) ≡ (then (read_value T (n - d) u (drop at m)) λ v s₁. got (wrapped way d v) s₁)
      → (buf₁ buf₂ : List ℕ) → buf₁ ≡ sets buf next (way_octets (take d way)) → (has_members (kind_of h) ≡ true → buf₂ ≡ absent_in j x.0 buf₁ to)
      → (has_members (kind_of h) ≡ false → buf₂ ≡ buf₁)
      → Ready T n h m first to After buf₂ at (next + 4 * d) x.0 u
  ready_found way d u x f l w buf₁ buf₂ e₁ e₂ e₃ =
      let q : C.part ≡ x = some-injective C.part x (sym C.found ∙ f) in
      let r = rw q at C.read in
      let I = inner_under T n x.1.type (drop at m) way d u C.value C.behind l w r in
      let z = way_length (take d way) ∙ ap (λ (k : ℕ). 4 * k) (length-take-le d way l) in
      let S₁ = rw z at (stands_more C.stands (way_octets (take d way)) buf₁ e₁) in
      let least : j ≤ x.0 = rw q at C.least in
      let most : x.0 < length (parts_of h) = rw q at C.most in
      let g = ap length I.octets ∙ length-append (way_octets (take d way)) (octets I.value) in
      let lb = ap length e₁ ∙ length-sets buf next (way_octets (take d way)) in
      let lc : length buf₂ ≡ length buf = test (has_members (kind_of h))
      (λ c. ap length (e₂ c) ∙ length-sets buf₁ (to + 4 + j) (replicate (x.0 - j) 0) ∙ lb) λ c. ap length (e₃ c) ∙ lb in
      record {
        hand = C.hand;
        value = C.value;
        behind = C.behind;
        way = take d way;
        inner = I;
        stands = test (has_members (kind_of h)) (λ c. stands_absent S₁ c x.0 least (omega arith) buf₂ (e₂ c)) λ c. rw (e₃ c)
            (stands_elsewhere S₁ c x.0 (omega arith));
        most = most;
        alone = C.alone;
        room = omega (arith, C.room);
        low = C.low;
        after = λ buf₃ end next₁ a b c. (rw q at C.after) buf₃ end next₁ a b (c ∙ lc);
      }

noted_length : (k place : ℕ) (buf : List ℕ) (to : ℕ) → length (noted_in k place buf to) ≡ length buf
unfolding noted_in if
noted_length k place buf to =
    test (has_members k) (λ c. rw c (length-set buf (to + 4 + place) 1)) λ c. test (eqb k 50) (λ d. rw (c, d) (length-set buf (to + 3) place)) λ d. rw
    (c, d) refl

module _ {T : Table} {n : ℕ} {h : Holder} {m first : List ℕ} {to : ℕ} {After : List ℕ → ℕ → ℕ → ℕ → Type 0} {buf : List ℕ} {at next place u : ℕ}
    (R : Ready T n h m first to After buf at next place u) where
  -- the node stands within the buffer
  pub ready_node : to + node_size h ≤ length buf
  ready_node = omega (arith, R.room, R.stands.reaches)

  -- the value has room
  pub ready_room : {buf₁ : List ℕ} → buf₁ ≡ noted_in (kind_of h) place buf to → next + length (octets R.inner.value) ≤ length buf₁
  ready_room e = rw (e, noted_length (kind_of h) place buf to) R.room

  -- and was placed
  pub ready_placed : {buf₁ buf₂ : List ℕ} {end next₁ : ℕ} → buf₁ ≡ noted_in (kind_of h) place buf to
      → Final R.inner.value R.behind m buf₁ next buf₂ end next₁
      → After buf₂ end next₁ (onward (kind_of h) place)
  ready_placed {buf₁} {buf₂} {end} {next₁} e F =
      let w = octets R.inner.value in
      let b = F.buffer ∙ ap (λ (l : List ℕ). sets l next w) e in
      let S = stands_turn R.stands R.alone R.most R.value w buf₂ R.inner.octets b in
      R.after buf₂ end next₁ F.within F.behind
      (ap length F.buffer ∙ length-sets buf₁ next w ∙ ap length e ∙ noted_length (kind_of h) place buf to)
      (rw F.ends S)

  -- what follows it stands further on
  pub ready_further : {end : ℕ} → end ≤ length m → R.behind ≡ drop end m → at < end
  ready_further {end} l d =
      omega (arith, rw d at (got_holds (value_shorter T n u (drop at m)) R.inner.read), length-drop at m, length-drop end m, R.low)
