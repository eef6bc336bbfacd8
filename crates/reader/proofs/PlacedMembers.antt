-- The placing of the items in an entry's contents: what is known before its loop, and one law for each way through it.
-- Assumes nothing.
use mathlib.Core.Bool.{Bool, true, false, ◌||◌, ◌&&◌, true≢false}
use mathlib.Core.List.{List, []}
use mathlib.Core.Option.{Option, none, some-injective, none-ne-some}
use mathlib.Core.Path.{◌≡◌, refl, sym, ap, ◌∙◌}
use Prim.Native.Nat.{ℕ, suc, ◌+◌, ◌-◌, ◌*◌, ◌/◌, ◌≤◌, ◌<◌}
use native.Mathlib.Omega.{arith}
use borrow.Author.Tests.{eqb-true, eqb-false, ltb-true, ltb-false}
use lib.Dec.{eqb, ltb}
use lib.ListN.{length, get_or, take, drop, length-append, length-drop}
use lib.Seq.{sets, length-sets, length-take-le}
use Rattle.std.specs.Prelude.{Ok}
use Rattle.x690.specs.declared.ReadingCause.{ReadingCause}
use Rattle.octets.specs.Answer.{Answer, got, refused, then, if, none_left}
use Rattle.octets.specs.Numbers.{Octets}
use Rattle.octets.proofs.Answer.{refused≢got, got_value, got_rest, got_holds}
use Rattle.octets.proofs.Tests.{test}
use Rattle.ber.specs.Told.{mode}
use Rattle.table.specs.Syntax.{Member, Plain, Sequence, Set, SequenceOf, SetOf, Choice, Table}
use Rattle.table.specs.Reading.{table_in, count_in}
use Rattle.kinds.specs.Kinds.{octet_of}
use Rattle.records.specs.Entries.{span_of}
use Rattle.records.specs.Descriptors.{described}
use Rattle.records.specs.declared.descriptor.Descriptor.{Descriptor}
use Rattle.records.specs.declared.entry.Span.{Span}
use Rattle.coding.specs.Value.{Value, octets}
use Rattle.coding.specs.Value as ValueOf
use Rattle.coding.specs.Reading.{nothing, read_value}
use Rattle.coding.proofs.FirstTags.{good}
use Rattle.coding.proofs.Refusals.{value_shorter}
use Rattle.reader.specs.Codes.{first_of, untagged, either}
use Rattle.reader.specs.Items.{Holder, inside, message, manner, parts_of, since, Hand, next as next_part, read_items, filled, assemble}
use Rattle.reader.specs.Items.{node_size, blank, read_held}
use Rattle.reader.specs.Records.{record_in, read_record}
use Rattle.reader.specs.Sought.{held, Sound, Sought, tabled_count}
use Rattle.reader.specs.Ways.{wrapped}
use Rattle.reader.specs.declared.search.Choice.{Choice as ChoiceFound}
use Rattle.reader.specs.declared.node.Placed.{Placed as Spot}
use Rattle.reader.specs.Placing.{kind_of, has_members, holds_one, onward, node_of, opening_of, absent_in, finished_in, noted_in, said}
use Rattle.reader.specs.Placing.{flags, way_octets, end_at, Spotted}
use Rattle.reader.specs.Placed.{ToPlace, ToPlaceValue, Final, IsPlaced, held_in, value_in, Following}
use Rattle.reader.specs.Wraps.{Headed}
use Rattle.reader.proofs.ItemsFound.{AtItem, item_sought, item_tagged, item_level, item_value, item_headed}
use Rattle.reader.proofs.PlacedWays.{way_length, inner_under}
use Rattle.reader.proofs.Tagging.{record_is}
use Rattle.reader.proofs.PlacedLevels.{kept_got, value_kept}
use Rattle.reader.proofs.Finding.{good_held}
use Rattle.reader.proofs.ItemsKinds.{blank_clear}
use Rattle.reader.proofs.PlacedNodes.{nothing_is, row_length, members_size}
use Rattle.reader.proofs.PlacedTurns.{over_at_lem}
use Rattle.reader.proofs.PlacedLoop.{Loop, Comes, Goes, Ready as Prepared, ready_found, ready_node, ready_room, ready_placed}
use Rattle.reader.proofs.PlacedLoop.{ready_further}
use Rattle.reader.proofs.PlacedLoop.{loop_first, arriving_comes, arriving_over, sorted_comes, sorted_end}
use Rattle.reader.proofs.PlacedTurns.{Placing}
use Rattle.reader.proofs.PlacedSets.{Filling, filling_skip}
use Rattle.reader.proofs.Held.{held_kind, held_kinded, held_span, held_few, held_node, held_opening, held_onward, onward_most}
use Rattle.reader.proofs.Spans.{Spanned}
use Rattle.reader.proofs.ItemsSizes.{presence_length}
use Rattle.reader.proofs.Locating.{set_members}
use Rattle.checker.proofs.Ready.{Ready, described_in}

count_parts : (h : Holder) → holds_one (kind_of h) ≡ false → tabled_count h ≡ length (parts_of h)
unfolding kind_of tabled_count
count_parts (inside y) e = refl
count_parts (message t) e = absurd (true≢false e)

-- the node of elements
list_node : (h : Holder) → (kind_of h ≡ 0 → ⊥) → holds_one (kind_of h) ≡ false → has_members (kind_of h) ≡ false → node_size h ≡ 5
unfolding kind_of node_size
list_node (inside (Plain k)) n e c = absurd (n refl)
list_node (inside (Sequence ms)) n e c = absurd (true≢false c)
list_node (inside (Set ms)) n e c = absurd (true≢false c)
list_node (inside (SequenceOf t)) n e c = refl
list_node (inside (SetOf t)) n e c = refl
list_node (inside (Choice ts)) n e c = absurd (true≢false e)
list_node (message t) n e c = absurd (true≢false e)

choice_node : (h : Holder) → kind_of h ≡ 50 → node_size h ≡ 4
unfolding kind_of node_size
choice_node (inside (Plain k)) e = absurd (omega arith)
choice_node (inside (Sequence ms)) e = absurd (omega arith)
choice_node (inside (Set ms)) e = absurd (omega arith)
choice_node (inside (SequenceOf t)) e = absurd (omega arith)
choice_node (inside (SetOf t)) e = absurd (omega arith)
choice_node (inside (Choice ts)) e = refl
choice_node (message t) e = absurd (omega arith)

set_onward : (k p : ℕ) → k ≡ 17 → onward k p ≡ suc p
unfolding onward if
set_onward k p q = rw q refl

-- the node of a value is a part of its octets
node_fits : (h : Holder) (hand : Hand) → (kind_of h ≡ 0 → ⊥) → node_size h ≤ length (octets (assemble h hand))
unfolding kind_of assemble node_size octets
node_fits (inside (Plain k)) hand n = absurd (n refl)
node_fits (inside (Sequence ms)) hand n =
    let os = filled hand (nothing ms) in
    let l : length os ≡ length ms = ap (λ (z : List (Option Value)). length (filled hand z)) (nothing_is ms) ∙ row_length hand (length ms) in
    omega (arith, length-append (ValueOf.presence (ValueOf.slots os)) (ValueOf.slot_octets (ValueOf.slots os)), presence_length os)
node_fits (inside (Set ms)) hand n =
    let os = filled hand (nothing ms) in
    let l : length os ≡ length ms = ap (λ (z : List (Option Value)). length (filled hand z)) (nothing_is ms) ∙ row_length hand (length ms) in
    omega (arith, length-append (ValueOf.presence (ValueOf.slots os)) (ValueOf.slot_octets (ValueOf.slots os)), presence_length os)
node_fits (inside (SequenceOf t)) hand n = omega arith
node_fits (inside (SetOf t)) hand n = omega arith
node_fits (inside (Choice ts)) hand n = omega arith
node_fits (message t) hand n = omega arith

said_long : (h : Holder) → length (said h 0 []) ≤ node_size h
unfolding said node_size flags filled ValueOf.slots ValueOf.presence
said_long (inside (Plain k)) = omega arith
said_long (inside (Sequence ms)) = omega arith
said_long (inside (Set ms)) = omega arith
said_long (inside (SequenceOf t)) = omega arith
said_long (inside (SetOf t)) = omega arith
said_long (inside (Choice ts)) = omega arith
said_long (message t) = omega arith

-- what is required, with the entry and where its parts stand
pub record Given (b index : List ℕ) (w : ℕ) (m : List ℕ) (indefinite : Bool) (first : List ℕ) (to : ℕ) (e : Descriptor) (s : Span) : Type 0 where
  pub ready : Ready b index
  pub asked : ToPlace b index w m indefinite first to
  pub open asked use *
  pub octets : Octets m
  pub entry : e ≡ described w
  pub span : s ≡ span_of b (octet_of e.kind) e.own

-- and what is known before the loop: where the members of a SET begin and where they end, and the buffer once the node was begun
pub record Started (b index : List ℕ) (w : ℕ) (m : List ℕ) (indefinite : Bool) (first : List ℕ) (to : ℕ) (e : Descriptor) (s : Span) (ns : List ℕ) (last : ℕ)
    (opened : List ℕ) : Type 0 where
  pub given : Given b index w m indefinite first to e s
  pub spotted : (ms : List Member) → held b w ≡ inside (Set ms) → Spotted (table_in b) ms indefinite m ns last
  pub opening : opened ≡ sets first to (opening_of (octet_of e.kind) s.count)

module _ {b index : List ℕ} {w : ℕ} {m : List ℕ} {indefinite : Bool} {first : List ℕ} {to : ℕ} {e : Descriptor} {s : Span}
    (G : Given b index w m indefinite first to e s) where
  abbrev H : Holder
  H = held b w

  abbrev T : Table
  T = table_in b

  pub its_kind : (octet_of e.kind) ≡ kind_of H
  its_kind = held_kind G.ready G.known G.holds e G.entry

  its_some : kind_of H ≡ 0 → ⊥
  its_some = held_kinded G.ready G.known G.holds

  -- all the items
  pub record Items : Type 0 where
    pub all : Hand
    pub read : read_items T (read_value T 24) H (suc (length m)) 0 blank [] (mode indefinite) m ≡ got all G.fits.rest
    pub value : assemble H all ≡ G.fits.value

  pub items : Items
  unfolding read_held then
  items = go (read_items T (read_value T 24) H (suc (length m)) 0 blank [] (mode indefinite) m) refl G.fits.is
    where
      go : (x : Answer ReadingCause Hand) → read_items T (read_value T 24) H (suc (length m)) 0 blank [] (mode indefinite) m ≡ x
          → then x (λ hand u. got (assemble H hand) u) ≡ got G.fits.value G.fits.rest
          → Items
      go (got all u) q f = record { all = all; read = q ∙ ap (got all) (got_rest f); value = got_value f }
      go (refused c l) q f = refused≢got f

  its_spanned : Spanned b H (octet_of (described w).kind) s
  its_spanned = held_span G.ready G.known G.holds e G.entry s G.span

  its_count : s.count ≡ tabled_count H
  its_count = its_spanned.count

  parts_few : length (parts_of H) ≤ 16
  parts_few = held_few G.ready G.known G.holds e G.entry s G.span

  pub its_few : s.count ≤ 16
  its_few = its_spanned.few

  its_onward : (place : ℕ) → place + s.step / 2 ≡ onward (kind_of H) place
  its_onward = held_onward G.ready G.known G.holds e G.entry s G.span

  its_node : node_of (octet_of e.kind) s.count ≡ node_size H
  its_node = held_node G.ready G.known G.holds e G.entry s G.span

  its_opening : opening_of (octet_of e.kind) s.count ≡ said H 0 []
  its_opening = held_opening G.ready G.known G.holds e G.entry s G.span

  its_room : to + length (octets (assemble H items.all)) ≤ length first
  its_room = rw items.value G.fits.room

  -- the node has room
  pub begin_room : (s.count < 256) × (to + length (opening_of (octet_of e.kind) s.count) ≤ length first)
      × (to + node_of (octet_of e.kind) s.count ≤ length first)
  begin_room =
      let l = node_fits H items.all its_some in
      (omega (arith, its_few), rw its_opening (omega (arith, said_long H, its_room)), rw its_node (omega (arith, its_room)))

  pub no_members : (octet_of e.kind ≡ 17 → ⊥) → (ms : List Member) → held b w ≡ inside (Set ms) → ⊥
  unfolding kind_of
  no_members n ms q = n (its_kind ∙ ap kind_of q)

  -- what was placed is the value
  placed : {buf : List ℕ} {end next : ℕ} → Final (assemble H items.all) G.fits.rest m first to buf end next → (v : Value) (rest : List ℕ)
      → held_in b H indefinite m ≡ got v rest
      → Final v rest m first to buf end next
  placed F v rest f =
      let q = sym G.fits.is ∙ f in
      let x : assemble H items.all ≡ v = items.value ∙ got_value q in
      let y : G.fits.rest ≡ rest = got_rest q in
      rw (x, y) at F

module _ {b index : List ℕ} {w : ℕ} {m : List ℕ} {indefinite : Bool} {first : List ℕ} {to : ℕ} {e : Descriptor} {s : Span} {ns : List ℕ} {last : ℕ}
    {opened : List ℕ} (X : Started b index w m indefinite first to e s ns last opened) where
  abbrev All : Hand
  All = (items X.given).all

  -- before an item
  abbrev pub State : List ℕ → ℕ → ℕ → ℕ → ℕ → Type 0
  State buf at next j count = Loop (table_in b) 24 (held b w) indefinite m All X.given.fits.rest ns first to buf at next j count

  -- the item that comes
  abbrev pub Coming : ℕ → List ℕ → ℕ → ℕ → ℕ → Type 0
  Coming count buf at next j =
      Comes (table_in b) 24 (held b w) m first to (Goes (table_in b) 24 (held b w) indefinite m All X.given.fits.rest ns first to count) buf at next j

  pub state_first : (next : ℕ) → next ≡ to + node_of (octet_of e.kind) s.count → State opened 0 next 0 0
  state_first next en =
      let G = X.given in
      loop_first ns last (its_some G) (items G).read (its_room G) X.spotted
      (X.opening ∙ ap (sets first to) (its_opening G)) (en ∙ ap (λ (k : ℕ). to + k) (its_node G))

  module _ {buf : List ℕ} {at next j count : ℕ} (L : State buf at next j count) where
    -- a SET
    module _ (k17 : (octet_of e.kind) ≡ 17) where
      its_set : (ms : List Member) × (held b w ≡ inside (Set ms))
      its_set = set_members X.given.ready X.given.known (ap (λ (x : Descriptor). octet_of x.kind) (sym X.given.entry) ∙ k17)

      set_count : s.count ≡ length its_set.0
      unfolding tabled_count parts_of
      set_count = its_count X.given ∙ ap tabled_count its_set.1

      its_filling : Filling (table_in b) 24 its_set.0 m ns (filled All (nothing its_set.0)) first to buf next j
      its_filling = L.sorted its_set.0 its_set.1

      pub set_low : j ≤ s.count
      unfolding parts_of
      set_low = omega (arith, its_filling.stands.within, set_count)

      pub set_room : (k : ℕ) → k ≤ s.count → to + 4 + k ≤ length buf
      unfolding kind_of assemble node_size
      set_room k l =
          let z = node_fits (inside (Set its_set.0)) All (λ y. omega arith) in
          omega (arith, its_filling.room, set_count)

      module _ (k : ℕ) (F : Following ns j s.count k) {buf₁ : List ℕ} (e₁ : buf₁ ≡ absent_in j k buf to) where
        its_skipped : Filling (table_in b) 24 its_set.0 m ns (filled All (nothing its_set.0)) first to buf₁ next k
        its_skipped = filling_skip its_filling k F.least (omega (arith, F.most, set_count)) F.none buf₁ e₁

        pub set_over : k ≡ s.count → (v : Value) (rest : List ℕ) → held_in b (held b w) indefinite m ≡ got v rest → Final v rest m first to buf₁ last next
        set_over q =
            let G = X.given in
            let W = rw its_set.1 at (items G).read in
            placed G (rw its_set.1 (sorted_end indefinite its_skipped (q ∙ set_count) W (X.spotted its_set.0 its_set.1)))

        pub set_comes : (k ≡ s.count → ⊥) → Coming count buf₁ (get_or ns k 0 - 1) next k
        set_comes q =
            let G = X.given in
            let l : k < s.count = omega (arith, F.most) in
            let low : count ≤ j = L.few (sym (its_kind G) ∙ k17) in
            rw its_set.1
            (sorted_comes (good b (table_in b) (count_in b) G.ready.passes) (rw its_set.1 at (good_held G.ready w G.known)) its_skipped
            (omega (arith, set_count)) (F.came l) count (omega (arith, F.least)))

    pub state_count : count ≤ 8192
    state_count =
        let G = X.given in
        test (eqb (octet_of e.kind) 17)
        (λ q.
        let z = eqb-true (octet_of e.kind) 17 q in
        omega (arith, L.few (sym (its_kind G) ∙ z), set_low z, its_few G))
        λ q.
        let S = L.arriving (λ z. eqb-false (octet_of e.kind) 17 q (its_kind G ∙ z)) in
        omega (arith, S.few, S.low, G.short)

    -- the others
    module _ (no_set : (octet_of e.kind) ≡ 17 → ⊥) where
      other : kind_of (held b w) ≡ 17 → ⊥
      other z = no_set (its_kind X.given ∙ z)

      its_placing : Placing (table_in b) 24 (held b w) indefinite m All X.given.fits.rest first to buf at next j count
      its_placing = L.arriving other

      pub other_low : at ≤ length m
      other_low = its_placing.low

      pub other_count : count ≤ at
      other_count = its_placing.few

      -- contents are over
      module _ (h : Bool) (eh : h ≡ holds_one (octet_of e.kind)) (no : h ≡ false) (o : Bool)
          (eo : o ≡ (none_left (drop at m) || (indefinite && eqb (get_or m at 0) 0))) where
        not_one : holds_one (kind_of (held b w)) ≡ false
        not_one = ap holds_one (sym (its_kind X.given)) ∙ sym eh ∙ no

        its_parts : s.count ≡ length (parts_of (held b w))
        its_parts = its_count X.given ∙ count_parts (held b w) not_one

        pub finish_room : (has_members (octet_of e.kind) ≡ true → to + 4 + s.count ≤ length buf)
            × (has_members (octet_of e.kind) ≡ false → (to + 5 ≤ length buf) × (count < 65536))
        finish_room =
            let G = X.given in
            let q = its_kind G in (
              λ c. let z = members_size (held b w) (rw q at c) in omega (arith, its_placing.room, its_parts),
              λ c.
                  let z = list_node (held b w) (its_some G) not_one (rw q at c) in
                  (omega (arith, its_placing.room), omega (arith, other_count, other_low, G.short)),
            )

        pub other_over : o ≡ true → {buf₁ : List ℕ} → buf₁ ≡ finished_in (octet_of e.kind) j s.count count buf to → {end : ℕ} → end ≡ end_at indefinite at
            → (v : Value) (rest : List ℕ) → held_in b (held b w) indefinite m ≡ got v rest → Final v rest m first to buf₁ end next
        other_over y {buf₁} e₁ e₂ =
            let G = X.given in
            placed G (rw e₂ (arriving_over other (its_some G) its_placing not_one (sym (over_at_lem m at indefinite o eo) ∙ y) buf₁ (rw (its_kind G, its_parts) at e₁)))

        pub other_comes : o ≡ false → Coming count buf at next j
        other_comes y = arriving_comes other (its_some X.given) its_placing ns (λ z. sym (over_at_lem m at indefinite o eo) ∙ y)

      -- one item
      pub one_comes : (h : Bool) → h ≡ holds_one (octet_of e.kind) → h ≡ true → Coming count buf at next j
      one_comes h eh y =
          let z = ap holds_one (sym (its_kind X.given)) ∙ sym eh ∙ y in
          arriving_comes other (its_some X.given) its_placing ns (λ x. absurd (true≢false (sym z ∙ x)))

-- the value of a record
module _ {b index : List ℕ} (R : Ready b index) where
  record_read : (u : ℕ) → u < count_in b → (s : List ℕ) (v : Value) (w : List ℕ) → read_value (table_in b) 24 u s ≡ got v w
      → value_in b (get_or index u 0) s ≡ got v w
  unfolding read_record read_value
  record_read u l s v w e = rw (record_is (described_in R u l)) (kept_got (value_kept (table_in b) 24 25 u s (omega arith)) e)

module _ {b index : List ℕ} {w : ℕ} {m : List ℕ} {indefinite : Bool} {first : List ℕ} {to : ℕ} {e : Descriptor} {s : Span} {ns : List ℕ} {last : ℕ}
    {opened : List ℕ} (X : Started b index w m indefinite first to e s ns last opened) (count : ℕ) where
  -- the record that the item begins, on a way from the part at `place`; its first identifier ends at `from`
  pub record Chosen (j : ℕ) (buf : List ℕ) (at next place u from : ℕ) : Type 0 where
    pub prepared : Prepared (table_in b) 24 (held b w) m first to
        (Goes (table_in b) 24 (held b w) indefinite m (items X.given).all X.given.fits.rest ns first to count) buf at next place u
    pub least : j ≤ place
    pub low : u < count_in b
    pub tagged : first_of (table_in b u) ≡ untagged → ⊥
    pub headed : let e = described (get_or index u 0) in Headed m at from (either (record_in b e)) e.code

  pub sound : Sound b index w blank
  sound = record { known = X.given.known; clear = λ z p. blank_clear p }

  module _ {buf : List ℕ} {at next j : ℕ} (C : Coming X count buf at next j) where
    pub coming_low : at < length m
    coming_low = omega (arith, got_holds (value_shorter (table_in b) 24 C.part.1.type (drop at m)) C.read, length-drop at m)

    -- what is asked of the part next in turn
    pub coming_asks : Sound b index w blank × (s ≡ span_of b (octet_of (described w).kind) (described w).own) × (at < length m)
    coming_asks = (sound, X.given.span ∙ ap (λ (x : Descriptor). span_of b (octet_of x.kind) x.own) X.given.entry, coming_low)

    -- an item of a part: with the nodes of the way to its record, and those between told of
    module _ {way : List ℕ} {place u depth from : ℕ}
        (I : AtItem b (held b w) m at (since (manner (held b w)) j) blank way place u depth from) where
      its_part : C.part ≡ (place, I.part)
      its_part = some-injective C.part (place, I.part) (sym C.found ∙ I.found)

      item_read : read_value (table_in b) 24 I.part.type (drop at m) ≡ got C.value C.behind
      item_read = rw its_part at C.read

      item_deep : depth ≤ 24
      item_deep =
          test (ltb 24 depth)
          (λ q. refused≢got (sym (item_level X.given.ready X.given.octets I 24 (omega (arith, ltb-true 24 depth q))) ∙ item_read))
          λ q. ltb-false 24 depth q

      its_way : read_value (table_in b) 24 I.part.type (drop at m)
          ≡ then (read_value (table_in b) (24 - depth) u (drop at m)) λ v s₁. got (wrapped way depth v) s₁
      its_way = item_value X.given.ready X.given.octets I 24 item_deep

      item_most : place < length (parts_of (held b w))
      item_most = rw its_part at C.most

      module _ (ways : depth ≤ length way) where
        item_room : next + 4 * depth ≤ length buf
        item_room =
            let A = inner_under (table_in b) 24 I.part.type (drop at m) way depth u C.value C.behind ways its_way item_read in
            let z = way_length (take depth way) ∙ ap (λ (k : ℕ). 4 * k) (length-take-le depth way ways) in
            omega (arith, C.room, ap length A.octets, length-append (way_octets (take depth way)) (octets A.value))

        item_chosen : {buf₁ buf₂ : List ℕ} {next₁ : ℕ} → buf₁ ≡ sets buf next (way_octets (take depth way)) → next₁ ≡ next + 4 * depth
            → (has_members (octet_of e.kind) ≡ true → buf₂ ≡ absent_in j place buf₁ to) → (has_members (octet_of e.kind) ≡ false → buf₂ ≡ buf₁)
            → Chosen j buf₂ at next₁ place u from
        item_chosen {buf₁} {buf₂} e₁ en e₂ e₃ =
            let k = its_kind X.given in
            rw en
            (record {
              prepared = ready_found C way depth u (place, I.part) I.found ways its_way buf₁ buf₂ e₁ (rw k at e₂) (rw k at e₃);
              least = rw its_part at C.least;
              low = I.there;
              tagged = item_tagged X.given.ready X.given.octets I;
              headed = item_headed X.given.ready X.given.octets I;
            })

    -- the part that the search found
    abbrev pub FindsPart : ChoiceFound → List ℕ → Type 0
    FindsPart x way = Sought b (held b w) (since (manner (held b w)) j) blank (drop at m) way (Ok x)

    module _ (x : ChoiceFound) (way : List ℕ) (ways : length way ≡ 128) (F : FindsPart x way) where
      abbrev FoundItem : AtItem b (held b w) m at (since (manner (held b w)) j) blank way x.place x.record x.depth (at + x.from)
      FoundItem = item_sought x C.low F

      pub found_deep : x.depth ≤ 24
      found_deep = item_deep FoundItem

      within_way : x.depth ≤ length way
      within_way = omega (arith, found_deep)

      pub found_room : next + 4 * x.depth ≤ length buf
      found_room = item_room FoundItem within_way

    -- it finds one
    pub found_some : next_part (table_in b) (held b w) (since (manner (held b w)) j) blank (drop at m) ≡ none → ⊥
    found_some z = none-ne-some C.part (sym z ∙ C.found)

    -- a part was found, and the nodes of the way stand there
    abbrev pub Picked : List ℕ → ℕ → ℕ → ℕ → ℕ → Type 0
    Picked buf₁ next₁ place u from =
        (length buf₁ ≡ length buf)
        × (has_members (octet_of e.kind) ≡ true → to + 4 + place ≤ length buf₁)
        × ((buf₂ : List ℕ) → (has_members (octet_of e.kind) ≡ true → buf₂ ≡ absent_in j place buf₁ to) → (has_members (octet_of e.kind) ≡ false → buf₂ ≡ buf₁)
        → Chosen j buf₂ at next₁ place u from)

    absent_room : (place : ℕ) → place < length (parts_of (held b w)) → has_members (octet_of e.kind) ≡ true → to + 4 + place ≤ length buf
    absent_room place l c =
        let z = members_size (held b w) (rw (its_kind X.given) at c) in
        omega (arith, C.room, C.stands.reaches)

    pub picked : (x : ChoiceFound) (way : List ℕ) → length way ≡ 128 → FindsPart x way
        → {buf₁ : List ℕ} {next₁ : ℕ} → buf₁ ≡ sets buf next (way_octets (take x.depth way)) → next₁ ≡ next + 4 * x.depth
        → Picked buf₁ next₁ x.place x.record (at + x.from)
    picked x way ways F {buf₁} e₁ en =
        let l : length buf₁ ≡ length buf = ap length e₁ ∙ length-sets buf next (way_octets (take x.depth way)) in (
          l,
          λ c. omega (arith, absent_room x.place (item_most (FoundItem x way ways F)) c),
          λ buf₂ e₂ e₃. item_chosen (FoundItem x way ways F) (within_way x way ways F) e₁ en e₂ e₃,
        )

    -- the part next in turn: there are no nodes of a way, and no members between
    pub turned : (x : ChoiceFound) (way : List ℕ) → length way ≡ 128 → FindsPart x way → x.place ≡ j → x.depth ≡ 0
        → Chosen j buf at next x.place x.record (at + x.from)
    unfolding way_octets
    turned x way ways F ep ed =
        let z : j - j ≡ 0 = omega arith in
        let e₁ : buf ≡ sets buf next (way_octets (take x.depth way)) = rw ed refl in
        let e₂ : buf ≡ absent_in j x.place buf to = rw (ep, z) refl in
        (picked x way ways F e₁ (omega (arith, ed))).2 buf (λ _. e₂) (λ _. refl)

  module _ {j : ℕ} {buf : List ℕ} {at next place u from : ℕ} (R : Chosen j buf at next place u from) where
    pub chosen_node : (has_members (octet_of e.kind) ≡ true → to + 4 + place < length buf) × (octet_of e.kind ≡ 50 → (to + 3 < length buf) × (place < 256))
    chosen_node =
        let G = X.given in
        let k = its_kind G in
        let l = ready_node R.prepared in
        let p = R.prepared.most in (
          λ c. let z = members_size (held b w) (rw k at c) in omega arith,
          λ c.
              let z = choice_node (held b w) (sym k ∙ c) in
              (omega arith, omega (arith, parts_few G)),
        )

    pub chosen_onward : place + s.step / 2 ≤ 16
    chosen_onward =
        let G = X.given in
        rw (its_onward G place) (omega (arith, onward_most (kind_of (held b w)) place, R.prepared.most, parts_few G))

    module _ {buf₁ : List ℕ} (e₁ : buf₁ ≡ noted_in (octet_of e.kind) place buf to) where
      its_noted : buf₁ ≡ noted_in (kind_of (held b w)) place buf to
      its_noted = rw (its_kind X.given) at e₁

      its_value : value_in b (get_or index u 0) (drop at m) ≡ got R.prepared.inner.value R.prepared.behind
      its_value = record_read X.given.ready u R.low (drop at m) R.prepared.inner.value R.prepared.behind R.prepared.inner.read

      -- the value is placed
      pub chosen_asks : ToPlaceValue b index (get_or index u 0) m at from buf₁ next
      chosen_asks =
          record {
            type = u;
            low = R.low;
            entry = refl;
            tagged = R.tagged;
            short = X.given.short;
            headed = R.headed;
            fits = record {
              value = R.prepared.inner.value;
              rest = R.prepared.behind;
              is = its_value;
              room = ready_room R.prepared its_noted;
            };
          }

      -- and was
      module _ {buf₂ : List ℕ} {r : Spot} (P : IsPlaced (value_in b (get_or index u 0) (drop at m)) m next buf₁ buf₂ r) where
        its_final : Final R.prepared.inner.value R.prepared.behind m buf₁ next buf₂ r.end r.next
        its_final = P R.prepared.inner.value R.prepared.behind its_value

        pub chosen_within : r.end ≤ length m
        chosen_within = its_final.within

        pub chosen_further : at < r.end
        chosen_further = ready_further R.prepared its_final.within its_final.behind

        pub chosen_next : (h : Bool) → h ≡ holds_one (octet_of e.kind) → h ≡ false → State X buf₂ r.end r.next (place + s.step / 2) (count + 1)
        chosen_next h eh z =
            let G = X.given in
            rw (its_onward G place) ((ready_placed R.prepared its_noted its_final).0 (ap holds_one (sym (its_kind G)) ∙ sym eh ∙ z))

        pub chosen_one : (h : Bool) → h ≡ holds_one (octet_of e.kind) → h ≡ true → (v : Value) (rest : List ℕ) → held_in b (held b w) indefinite m ≡ got v rest
            → Final v rest m first to buf₂ r.end r.next
        chosen_one h eh z =
            let G = X.given in
            placed G ((ready_placed R.prepared its_noted its_final).1 (ap holds_one (sym (its_kind G)) ∙ sym eh ∙ z))

        -- fewer members are left of a SET, or fewer octets
        pub chosen_fewer : (at₀ j₀ : ℕ) → (octet_of e.kind ≡ 17 → j₀ ≤ j) → ((octet_of e.kind ≡ 17 → ⊥) → at ≡ at₀)
            → if (eqb (octet_of e.kind) 17) (s.count - (place + s.step / 2)) (λ _. length m - r.end)
            < if (eqb (octet_of e.kind) 17) (s.count - j₀) (λ _. length m - at₀)
        unfolding if
        chosen_fewer at₀ j₀ f g =
            let G = X.given in
            test (eqb (octet_of e.kind) 17)
            (λ q.
            let z = eqb-true (octet_of e.kind) 17 q in
            let c = set_parts (sym (its_kind G) ∙ z) in
            let o = its_onward G place ∙ set_onward (kind_of (held b w)) place (sym (its_kind G) ∙ z) in
            rw q (omega (arith, R.prepared.most, R.least, f z)))
            λ q. let z = eqb-false (octet_of e.kind) 17 q in rw q (omega (arith, chosen_within, chosen_further, g z))
          where
            set_parts : kind_of (held b w) ≡ 17 → s.count ≡ length (parts_of (held b w))
            set_parts q = its_count X.given ∙ count_parts (held b w) (rw q refl)
