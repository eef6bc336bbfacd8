-- `place_members` and `place_value` meet their contracts: one law for each way through them. What several goals go by stands before the
-- first of them.
use Rattle.std.proofs.Common.{◌≡◌, ◌≤◌, ◌+◌, List, ℕ, refl, sym, ap, ◌∙◌, rules, arith}
use Rattle.std.proofs.lemmas.Bool.{true≢false}
use Rattle.ber.proofs.Places.{part_to_end}
use Rattle.table.specs.Syntax.{Member, Set}
use Rattle.table.specs.Reading.{table_in}
use Rattle.kinds.specs.Kinds.{octet_of}
use Rattle.kinds.specs.declared.Kind.TheVariants.{Set, Choice}
use Rattle.kinds.proofs.Same.{is_kind, not_kind, is_other, not_other}
use Rattle.records.specs.declared.descriptor.Descriptor.{Descriptor}
use Rattle.checker.proofs.Ready.{ready_by}
use Rattle.reader.specs.Items.{inside}
use Rattle.reader.specs.Sought.{held}
use Rattle.reader.specs.Placing.{Spotted}
use Rattle.reader.proofs.PlacedMembers.{Given, Started, its_few, begin_room, no_members, state_first, set_low, set_room, set_over, set_comes}
use Rattle.reader.proofs.PlacedMembers.{other_low, finish_room, other_over, other_comes, one_comes, Coming, sound, coming_low, coming_asks, Chosen, picked, turned, found_some}
use Rattle.reader.proofs.PlacedMembers.{found_deep, found_room, state_count, chosen_node, chosen_onward, chosen_asks, chosen_one, chosen_fewer, chosen_next}
use Rattle.reader.proofs.PlacedValue.{Accepted, Contents, Stored, under_none, must_open, under_open}
use Rattle.reader.proofs.PlacedValue.{read_contents, choice_contents, part_less, part_high, parts_ask, parts_stored, parts_end, leaf_asks, leaf_stored}
use Rattle.reader.proofs.PlacedValue.{items_ask, items_end, items_stored, bare_placed, close_asks, must_close, closed_placed}
use Rattle.reader.proofs.place.+place_members_place_value.Goals as goal
use Rattle.reader.proofs.place.+place_members_place_value.Goals.{place_members-After-parts-s, place_members-Joined-eq-2, place_members-Joined-in_turn}
use Rattle.reader.proofs.place.+place_members_place_value.Goals.{place_value-Joined-e-gt0, place_value-Joined-ne, place_value-Joined-e}
use Rattle.reader.proofs.place.+place_members_place_value.Goals.{place_members-then-eq, place_members-else-eq, place_members-in-Some-in_turn, place_members-in-None+in-Ok+then-has_members}
use Rattle.reader.proofs.place.+place_members_place_value.Goals.{place_members-in-None+in-Ok+else-has_members}
use Rattle.reader.proofs.place.+place_members_place_value.Goals.{place_members-then-eq-2+in-Some, place_members-else-eq-2+then-not-holds_one+else-is_over}
use Rattle.reader.proofs.place.+place_members_place_value.Goals.{place_members-else-eq-2+else-not-holds_one}
use Rattle.reader.proofs.place.+place_members_place_value.Goals.{place_value-then-e-gt0+in-Ok, place_value-then-e-gt0+in_default, place_value-else-e-gt0}
use Rattle.reader.proofs.place.+place_members_place_value.Goals.{place_value-then-ne, place_value-else-ne}
use Rattle.reader.proofs.place.+place_members_place_value.Goals.{place_value-then-e+then-in_segments, place_value-then-e+else-in_segments, place_value-else-e}

pub place_members-locate-last-requires : goal.place_members-locate-last-requires
place_members-locate-last-requires t c =
    let p = c.requires in
    (p.known, ap (λ (e : Descriptor). octet_of e.kind) (sym c.describe-e.ensures) ∙ (is_kind c.describe-e.result.kind Set c.eq.ensures c.if-eq.true), p.short, refl)

-- what is known before the node is begun
given : (t : ℕ) (c : place_members-After-parts-s t)
    → Given c.args.table.now.octets.now c.args.table.now.index.now c.args.w c.args.m.now c.args.indefinite c.args.buf.now c.args.to c.describe-e.result c.parts-s.result
given t c =
    record {
      ready = ready_by c.args.table.now;
      asked = c.requires;
      octets = λ k. omega (arith, c.type_inv.m k);
      entry = c.describe-e.ensures;
      span = c.parts-s.ensures;
    }

pub place_members-begin-next-requires : goal.place_members-begin-next-requires
place_members-begin-next-requires t c = begin_room (given t (goal.at.place_members-begin-next-requires t c).After-parts-s)

pub place_members-loop-began-init : goal.place_members-loop-began-init
place_members-loop-began-init t c =
    let a = c.args in
    let G = given t (goal.at.place_members-loop-began-init t c).After-parts-s in
    let P : (ms : List Member) → held a.table.now.octets.now a.w ≡ inside (Set ms) → Spotted (table_in a.table.now.octets.now) ms a.indefinite a.m.now c.if-eq.began c.if-eq.last
    = elim c.if-eq.branch [
      | place_members-then-eq w ↦ rw (w.began-is, w.last-is) w.locate-last.ensures
      | place_members-else-eq w ↦ λ ms q. absurd (no_members G (not_kind c.describe-e.result.kind Set c.eq.ensures w.if-eq.false) ms q)
    ] in
    let X : Started a.table.now.octets.now a.table.now.index.now a.w a.m.now a.indefinite a.buf.now a.to c.describe-e.result c.parts-s.result c.if-eq.began c.if-eq.last
    c.begin-next.new.buf = record { given = G; spotted = P; opening = c.begin-next.ensures.1 } in
    record { started = X; state = state_first X _ c.begin-next.ensures.0 }

pub place_members-following-requires : goal.place_members-following-requires
place_members-following-requires t c =
    let v = c.loop-began.invariant in
    (set_low v.started v.state (is_kind c.describe-e.result.kind Set c.eq-in-loop-began.ensures c.if-eq-2.true), its_few v.started.given)

pub place_members-put_absent-requires : goal.place_members-put_absent-requires
place_members-put_absent-requires t c =
    let v = c.loop-began.invariant in
    set_room v.started v.state (is_kind c.describe-e.result.kind Set c.eq-in-loop-began.ensures c.if-eq-2.true) _ (omega arith)

pub place_members-returns-in_default : goal.place_members-returns-in_default
place_members-returns-in_default t c =
    let v = c.loop-began.invariant in
    set_over v.started v.state (is_kind c.describe-e.result.kind Set c.eq-in-loop-began.ensures c.if-eq-2.true) _ (rw c.in_default.is at c.following.ensures.0) c.put_absent.ensures refl

pub place_members-put_absent-requires-then-eq-2 : goal.place_members-put_absent-requires-then-eq-2
place_members-put_absent-requires-then-eq-2 t c =
    let v = c.loop-began.invariant in
    let F = rw c.in-Some.is at c.following.ensures.0 in
    set_room v.started v.state (is_kind c.describe-e.result.kind Set c.eq-in-loop-began.ensures c.if-eq-2.true) _ F.most

pub place_members-finish-requires : goal.place_members-finish-requires
place_members-finish-requires t c =
    let v = c.loop-began.invariant in
    finish_room v.started v.state (not_kind c.describe-e.result.kind Set c.eq-in-loop-began.ensures c.if-eq-2.false) _ c.holds_one.ensures c.if-not-holds_one.true _ c.is_over.ensures

pub place_members-behind-requires : goal.place_members-behind-requires
place_members-behind-requires t c =
    let v = c.loop-began.invariant in
    omega (arith, other_low v.started v.state (not_kind c.describe-e.result.kind Set c.eq-in-loop-began.ensures c.if-eq-2.false), c.requires.short)

pub place_members-returns-then-is_over : goal.place_members-returns-then-is_over
place_members-returns-then-is_over t c =
    let v = c.loop-began.invariant in
    other_over v.started v.state (not_kind c.describe-e.result.kind Set c.eq-in-loop-began.ensures c.if-eq-2.false) _ c.holds_one.ensures c.if-not-holds_one.true _ c.is_over.ensures c.if-is_over.true c.finish.ensures c.behind.ensures

-- the item that comes
coming : (t : ℕ) (c : place_members-Joined-eq-2 t)
    → Coming c.loop-began.invariant.started c.loop-began.count c.if-eq-2.buf c.if-eq-2.at c.loop-began.next c.if-eq-2.j
coming t c =
    let X = c.loop-began.invariant.started in
    let L = c.loop-began.invariant.state in
    elim c.if-eq-2.branch [
      | place_members-then-eq-2+in-Some w ↦
          rw (w.buf-is, w.at-is, w.j-is) (set_comes X L (is_kind c.describe-e.result.kind Set c.eq-in-loop-began.ensures w.if-eq-2.true) _ (rw w.in-Some.is at w.following.ensures.0) w.put_absent-then-eq-2.ensures
          (λ z. omega (arith, rw w.in-Some.is at w.following.ensures.1)))
      | place_members-else-eq-2+then-not-holds_one+else-is_over w ↦
          rw (w.buf-is, w.at-is, w.j-is) (other_comes X L (not_kind c.describe-e.result.kind Set c.eq-in-loop-began.ensures w.if-eq-2.false) _ w.holds_one.ensures w.if-not-holds_one.true _ w.is_over.ensures w.if-is_over.false)
      | place_members-else-eq-2+else-not-holds_one w ↦
          rw (w.buf-is, w.at-is, w.j-is) (one_comes X L (not_kind c.describe-e.result.kind Set c.eq-in-loop-began.ensures w.if-eq-2.false) _ w.holds_one.ensures w.if-not-holds_one.false)
    ]

pub place_members-in_turn-requires : goal.place_members-in_turn-requires
place_members-in_turn-requires t c = coming_asks c.loop-began.invariant.started _ (coming t (goal.at.place_members-in_turn-requires t c).Joined-eq-2)

pub place_members-slice_bounds-search-count : goal.place_members-slice_bounds-search-count
place_members-slice_bounds-search-count t c =
    omega (arith, coming_low c.loop-began.invariant.started _ (coming t (goal.at.place_members-slice_bounds-search-count t c).Joined-eq-2))

pub place_members-slice_bounds-search-start : goal.place_members-slice_bounds-search-start
place_members-slice_bounds-search-start t c =
    let l = coming_low c.loop-began.invariant.started _ (coming t (goal.at.place_members-slice_bounds-search-start t c).Joined-eq-2) in
    omega arith

pub place_members-search-requires : goal.place_members-search-requires
place_members-search-requires t c = sound c.loop-began.invariant.started 0

pub place_members-returns-in_default-search : goal.place_members-returns-in_default-search
place_members-returns-in_default-search t c =
    let C = coming t (goal.at.place_members-returns-in_default-search t c).Joined-eq-2 in
    absurd (found_some c.loop-began.invariant.started _ C (rw (part_to_end c.args.m.now c.if-eq-2.at, c.in_default-search.is) at c.search.ensures).0)

pub place_members-put_way-next-requires : goal.place_members-put_way-next-requires
place_members-put_way-next-requires t c =
    let X = c.loop-began.invariant.started in
    let C = coming t (goal.at.place_members-put_way-next-requires t c).Joined-eq-2 in
    let l = c.search.array_long in
    let F = rw (part_to_end c.args.m.now c.if-eq-2.at, c.in-Ok.is) at c.search.ensures in
    (omega (arith, found_deep X _ C _ _ l F, l), found_room X _ C _ _ l F)

pub place_members-put_absent-requires-then-has_members : goal.place_members-put_absent-requires-then-has_members
place_members-put_absent-requires-then-has_members t c =
    let C = coming t (goal.at.place_members-put_absent-requires-then-has_members t c).Joined-eq-2 in
    let F = rw (part_to_end c.args.m.now c.if-eq-2.at, c.in-Ok.is) at c.search.ensures in
    let P = picked c.loop-began.invariant.started _ C c.in-Ok.x _ c.search.array_long F c.put_way-next.ensures.1 c.put_way-next.ensures.0 in
    P.1 (sym c.has_members.ensures ∙ c.if-has_members.true)

-- the record that it begins
chosen : (t : ℕ) (c : place_members-Joined-in_turn t)
    → Coming c.loop-began.invariant.started c.loop-began.count c.if-eq-2.buf c.if-eq-2.at c.loop-began.next c.if-eq-2.j
    → Chosen c.loop-began.invariant.started c.loop-began.count c.if-eq-2.j c.match-in_turn.buf c.if-eq-2.at c.match-in_turn.next c.match-in_turn.x.place c.match-in_turn.x.«record»
    (c.if-eq-2.at + c.match-in_turn.x.from)
chosen t c C =
    let X = c.loop-began.invariant.started in
    elim c.match-in_turn.branch [
      | place_members-in-Some-in_turn w ↦
          let f = c.in_turn.ensures _ w.in-Some-in_turn.is in
          rw (w.buf-is, w.next-is, w.x-is) (turned X _ C _ c.args.way.now c.told-way (f.2 _) f.0 f.1)
      | place_members-in-None+in-Ok+then-has_members w ↦
          let F = rw (part_to_end c.args.m.now c.if-eq-2.at, w.in-Ok.is) at w.search.ensures in
          let P = picked X _ C w.in-Ok.x _ w.search.array_long F w.put_way-next.ensures.1 w.put_way-next.ensures.0 in
          rw (w.next-is, w.x-is) (P.2 _ (λ z. w.buf-is ∙ w.put_absent-then-has_members.ensures) (λ z. absurd (true≢false (sym w.if-has_members.true ∙ w.has_members.ensures ∙ z))))
      | place_members-in-None+in-Ok+else-has_members w ↦
          let F = rw (part_to_end c.args.m.now c.if-eq-2.at, w.in-Ok.is) at w.search.ensures in
          let P = picked X _ C w.in-Ok.x _ w.search.array_long F w.put_way-next.ensures.1 w.put_way-next.ensures.0 in
          rw (w.next-is, w.x-is) (P.2 _ (λ z. absurd (true≢false (sym z ∙ sym w.has_members.ensures ∙ w.if-has_members.false))) (λ z. w.buf-is))
    ]

pub place_members-put_place-requires : goal.place_members-put_place-requires
place_members-put_place-requires t c =
    let z = goal.at.place_members-put_place-requires t c in
    chosen_node c.loop-began.invariant.started _ (chosen t z.Joined-in_turn (coming t z.Joined-eq-2))

pub place_members-overflow_add-j : goal.place_members-overflow_add-j
place_members-overflow_add-j t c =
    let z = goal.at.place_members-overflow_add-j t c in
    omega (arith, chosen_onward c.loop-began.invariant.started _ (chosen t z.Joined-in_turn (coming t z.Joined-eq-2)))

pub place_members-offset_bounds-index-x : goal.place_members-offset_bounds-index-x
place_members-offset_bounds-index-x t c =
    let z = goal.at.place_members-offset_bounds-index-x t c in
    omega (arith, (chosen t z.Joined-in_turn (coming t z.Joined-eq-2)).low, (ready_by c.args.table.now).passes.few)

pub place_members-bounds-index-x : goal.place_members-bounds-index-x
place_members-bounds-index-x t c =
    let z = goal.at.place_members-bounds-index-x t c in
    omega (arith, (chosen t z.Joined-in_turn (coming t z.Joined-eq-2)).low, (ready_by c.args.table.now).passes.few)

pub place_members-overflow_add-at : goal.place_members-overflow_add-at
place_members-overflow_add-at t c =
    let z = goal.at.place_members-overflow_add-at t c in
    omega (arith, (chosen t z.Joined-in_turn (coming t z.Joined-eq-2)).headed.low, c.requires.short)

pub place_members-place_value-y-requires : goal.place_members-place_value-y-requires
place_members-place_value-y-requires t c =
    let z = goal.at.place_members-place_value-y-requires t c in
    let R = chosen t z.Joined-in_turn (coming t z.Joined-eq-2) in
    (omega (arith, c.decreases), chosen_asks c.loop-began.invariant.started _ R c.put_place.ensures)

pub place_members-overflow_add-count : goal.place_members-overflow_add-count
place_members-overflow_add-count t c = let v = c.loop-began.invariant in omega (arith, state_count v.started v.state)

pub place_members-returns-then-holds_one : goal.place_members-returns-then-holds_one
place_members-returns-then-holds_one t c =
    let z = goal.at.place_members-returns-then-holds_one t c in
    let R = chosen t z.Joined-in_turn (coming t z.Joined-eq-2) in
    chosen_one c.loop-began.invariant.started _ R c.put_place.ensures c.place_value-y.ensures _ c.holds_one-in-loop-began.ensures c.if-holds_one.true

pub place_members-loop-began-smaller : goal.place_members-loop-began-smaller
place_members-loop-began-smaller t c =
    let z = goal.at.place_members-loop-began-smaller t c in
    let R = chosen t z.Joined-in_turn (coming t z.Joined-eq-2) in
    let less : octet_of c.describe-e.result.kind ≡ 17 → c.loop-began.j ≤ c.if-eq-2.j = elim c.if-eq-2.branch [
      | place_members-then-eq-2+in-Some w ↦ λ z. let F = rw w.in-Some.is at w.following.ensures.0 in rw w.j-is F.least
      | place_members-else-eq-2+then-not-holds_one+else-is_over w ↦ λ z. absurd ((not_kind c.describe-e.result.kind Set c.eq-in-loop-began.ensures w.if-eq-2.false) z)
      | place_members-else-eq-2+else-not-holds_one w ↦ λ z. absurd ((not_kind c.describe-e.result.kind Set c.eq-in-loop-began.ensures w.if-eq-2.false) z)
    ] in
    let same : (octet_of c.describe-e.result.kind ≡ 17 → ⊥) → c.if-eq-2.at ≡ c.loop-began.at = elim c.if-eq-2.branch [
      | place_members-then-eq-2+in-Some w ↦ λ n. absurd (n (is_kind c.describe-e.result.kind Set c.eq-in-loop-began.ensures w.if-eq-2.true))
      | place_members-else-eq-2+then-not-holds_one+else-is_over w ↦ λ n. w.at-is
      | place_members-else-eq-2+else-not-holds_one w ↦ λ n. w.at-is
    ] in
    chosen_fewer c.loop-began.invariant.started _ R c.put_place.ensures c.place_value-y.ensures _ _ less same

pub place_members-loop-began-preserved : goal.place_members-loop-began-preserved
place_members-loop-began-preserved t c =
    let X = c.loop-began.invariant.started in
    let z = goal.at.place_members-loop-began-preserved t c in
    let R = chosen t z.Joined-in_turn (coming t z.Joined-eq-2) in
    record { started = X; state = chosen_next X _ R c.put_place.ensures c.place_value-y.ensures _ c.holds_one-in-loop-began.ensures c.if-holds_one.false }

-- under the explicit tags
accepted : (t : ℕ) (c : place_value-Joined-e-gt0 t)
    → Accepted c.args.table.now.octets.now c.args.w c.args.m.now c.args.at c.requires.fits.value c.requires.fits.rest c.if-e-gt0.notes c.if-e-gt0.inner.at c.if-e-gt0.inner.from c.if-e-gt0.inner.end
accepted t c =
    let R = ready_by c.args.table.now in
    let P = c.requires in
    let e = c.describe-e.ensures in
    elim c.if-e-gt0.branch [
      | place_value-then-e-gt0+in-Ok w ↦ rw (w.notes-is, w.inner-is) (under_open R P _ _ w.«open».ensures _ w.in-Ok.is)
      | place_value-then-e-gt0+in_default w ↦ absurd (must_open R P _ _ w.«open».ensures _ _ w.in_default.is)
      | place_value-else-e-gt0 w ↦ rw (w.notes-is, w.inner-is) (under_none R P (rw e at w.if-e-gt0.false) _)
    ]

-- where the contents stand
contents : (t : ℕ) (c : place_value-Joined-ne t)
    (U : Accepted c.args.table.now.octets.now c.args.w c.args.m.now c.args.at c.requires.fits.value c.requires.fits.rest c.if-e-gt0.notes c.if-e-gt0.inner.at c.if-e-gt0.inner.from c.if-e-gt0.inner.end)
    → Contents c.args.table.now.octets.now c.args.w c.args.m.now c.args.at c.if-e-gt0.inner.at c.if-e-gt0.inner.end c.requires.fits.value U.left c.if-ne.start c.if-ne.stop c.if-ne.indefinite
contents t c U =
    let R = ready_by c.args.table.now in
    let P = c.requires in
    let e = c.describe-e.ensures in
    elim c.if-ne.branch [
      | place_value-then-ne w ↦
          rw (w.start-is, w.stop-is, w.indefinite-is)
          (read_contents R P U (λ i. omega (arith, c.type_inv.m i)) c.args.table.now.small (rw e at (is_other c.describe-e.result.kind Choice c.ne.ensures w.if-ne.true)) w.again-x.result w.again-x.ensures)
      | place_value-else-ne w ↦
          rw (w.start-is, w.stop-is, w.indefinite-is)
          (choice_contents R P U (λ i. omega (arith, c.type_inv.m i)) c.args.table.now.small (rw e at (not_other c.describe-e.result.kind Choice c.ne.ensures w.if-ne.false)))
    ]

-- and what was placed of them
stored : (t : ℕ) (c : place_value-Joined-e t)
    (U : Accepted c.args.table.now.octets.now c.args.w c.args.m.now c.args.at c.requires.fits.value c.requires.fits.rest c.if-e-gt0.notes c.if-e-gt0.inner.at c.if-e-gt0.inner.from c.if-e-gt0.inner.end)
    → Contents c.args.table.now.octets.now c.args.w c.args.m.now c.args.at c.if-e-gt0.inner.at c.if-e-gt0.inner.end c.requires.fits.value U.left c.if-ne.start c.if-ne.stop c.if-ne.indefinite
    → Stored c.requires.fits.value c.args.m.now c.if-e-gt0.inner.end U.left c.args.buf.now c.args.to c.if-e.buf c.if-e.stop c.if-e.next
stored t c U K =
    let R = ready_by c.args.table.now in
    let P = c.requires in
    let e = c.describe-e.ensures in
    elim c.if-e.branch [
      | place_value-then-e+then-in_segments w ↦
          rw (w.buf-is, w.stop-is, w.next-is) (parts_stored R P U K _ e w.if-e.true (sym w.in_segments.ensures ∙ w.if-in_segments.true) _ _ w.place_segments-x.ensures)
      | place_value-then-e+else-in_segments w ↦
          rw (w.buf-is, w.stop-is, w.next-is) (leaf_stored R P U K _ e w.if-e.true (sym w.in_segments.ensures ∙ w.if-in_segments.false) _ _ w.place_contents-next.ensures.0
          w.place_contents-next.ensures.1)
      | place_value-else-e w ↦ rw (w.buf-is, w.stop-is, w.next-is) (items_stored R P U K (rw e at w.if-e.false) _ _ w.place_members-x.ensures)
    ]

pub place_value-slice_bounds-c-count : goal.place_value-slice_bounds-c-count
place_value-slice_bounds-c-count t c =
    let z = goal.at.place_value-slice_bounds-c-count t c in
    let U = accepted t z.Joined-e-gt0 in
    (contents t z.Joined-ne U).order

pub place_value-slice_bounds-c-start : goal.place_value-slice_bounds-c-start
place_value-slice_bounds-c-start t c =
    let z = goal.at.place_value-slice_bounds-c-start t c in
    let U = accepted t z.Joined-e-gt0 in
    let K = contents t z.Joined-ne U in
    let h = K.order in search rules

pub place_value-slice_bounds-c-end : goal.place_value-slice_bounds-c-end
place_value-slice_bounds-c-end t c =
    let z = goal.at.place_value-slice_bounds-c-end t c in
    let R = ready_by c.args.table.now in
    let P = c.requires in
    let U = accepted t z.Joined-e-gt0 in
    let K = contents t z.Joined-ne U in
    let h = part_high R P U K in search rules

pub place_value-slice_bounds-c-count-else-e : goal.place_value-slice_bounds-c-count-else-e
place_value-slice_bounds-c-count-else-e t c =
    let z = goal.at.place_value-slice_bounds-c-count-else-e t c in
    let U = accepted t z.Joined-e-gt0 in
    (contents t z.Joined-ne U).order

pub place_value-slice_bounds-c-start-else-e : goal.place_value-slice_bounds-c-start-else-e
place_value-slice_bounds-c-start-else-e t c =
    let z = goal.at.place_value-slice_bounds-c-start-else-e t c in
    let U = accepted t z.Joined-e-gt0 in
    let K = contents t z.Joined-ne U in
    let h = K.order in search rules

pub place_value-slice_bounds-c-end-else-e : goal.place_value-slice_bounds-c-end-else-e
place_value-slice_bounds-c-end-else-e t c =
    let z = goal.at.place_value-slice_bounds-c-end-else-e t c in
    let R = ready_by c.args.table.now in
    let P = c.requires in
    let U = accepted t z.Joined-e-gt0 in
    let K = contents t z.Joined-ne U in
    let h = part_high R P U K in search rules

pub place_value-place_segments-x-requires : goal.place_value-place_segments-x-requires
place_value-place_segments-x-requires t c =
    let z = goal.at.place_value-place_segments-x-requires t c in
    let R = ready_by c.args.table.now in
    let P = c.requires in
    let e = c.describe-e.ensures in
    let U = accepted t z.Joined-e-gt0 in
    let K = contents t z.Joined-ne U in
    parts_ask R P U K _ e c.if-e.true (sym c.in_segments.ensures ∙ c.if-in_segments.true)

pub place_value-overflow_add-stop : goal.place_value-overflow_add-stop
place_value-overflow_add-stop t c =
    let z = goal.at.place_value-overflow_add-stop t c in
    let R = ready_by c.args.table.now in
    let P = c.requires in
    let e = c.describe-e.ensures in
    let U = accepted t z.Joined-e-gt0 in
    let K = contents t z.Joined-ne U in
    omega (arith, parts_end R P U K _ e c.if-e.true (sym c.in_segments.ensures ∙ c.if-in_segments.true) _ _ c.place_segments-x.ensures)

pub place_value-place_contents-next-requires : goal.place_value-place_contents-next-requires
place_value-place_contents-next-requires t c =
    let z = goal.at.place_value-place_contents-next-requires t c in
    let R = ready_by c.args.table.now in
    let P = c.requires in
    let e = c.describe-e.ensures in
    let U = accepted t z.Joined-e-gt0 in
    let K = contents t z.Joined-ne U in
    leaf_asks R P U K _ e c.if-e.true (sym c.in_segments.ensures ∙ c.if-in_segments.false)

pub place_value-place_members-x-requires : goal.place_value-place_members-x-requires
place_value-place_members-x-requires t c =
    let z = goal.at.place_value-place_members-x-requires t c in
    let R = ready_by c.args.table.now in
    let P = c.requires in
    let e = c.describe-e.ensures in
    let U = accepted t z.Joined-e-gt0 in
    let K = contents t z.Joined-ne U in
    (omega (arith, c.decreases, part_less R P U K), items_ask R P U K (rw e at c.if-e.false))

pub place_value-overflow_add-stop-else-e : goal.place_value-overflow_add-stop-else-e
place_value-overflow_add-stop-else-e t c =
    let z = goal.at.place_value-overflow_add-stop-else-e t c in
    let R = ready_by c.args.table.now in
    let P = c.requires in
    let e = c.describe-e.ensures in
    let U = accepted t z.Joined-e-gt0 in
    let K = contents t z.Joined-ne U in
    omega (arith, items_end R P U K (rw e at c.if-e.false) _ _ c.place_members-x.ensures)

pub place_value-close-requires : goal.place_value-close-requires
place_value-close-requires t c =
    let z = goal.at.place_value-close-requires t c in
    let R = ready_by c.args.table.now in
    let P = c.requires in
    let e = c.describe-e.ensures in
    let U = accepted t z.Joined-e-gt0 in
    let S = stored t z.Joined-e U (contents t z.Joined-ne U) in
    close_asks R P U S _ e

pub place_value-returns-in-Ok-close : goal.place_value-returns-in-Ok-close
place_value-returns-in-Ok-close t c =
    let z = goal.at.place_value-returns-in-Ok-close t c in
    let R = ready_by c.args.table.now in
    let P = c.requires in
    let e = c.describe-e.ensures in
    let U = accepted t z.Joined-e-gt0 in
    let S = stored t z.Joined-e U (contents t z.Joined-ne U) in
    closed_placed R P U S _ e _ c.close.ensures _ _ c.in-Ok-close.is

pub place_value-returns-in_default-close : goal.place_value-returns-in_default-close
place_value-returns-in_default-close t c =
    let z = goal.at.place_value-returns-in_default-close t c in
    let R = ready_by c.args.table.now in
    let P = c.requires in
    let e = c.describe-e.ensures in
    let U = accepted t z.Joined-e-gt0 in
    let S = stored t z.Joined-e U (contents t z.Joined-ne U) in
    absurd (must_close R P U S _ e _ c.close.ensures _ _ c.in_default-close.is)

pub place_value-returns-else-e-gt0-2 : goal.place_value-returns-else-e-gt0-2
place_value-returns-else-e-gt0-2 t c =
    let z = goal.at.place_value-returns-else-e-gt0-2 t c in
    let R = ready_by c.args.table.now in
    let P = c.requires in
    let e = c.describe-e.ensures in
    let U = accepted t z.Joined-e-gt0 in
    let S = stored t z.Joined-e U (contents t z.Joined-ne U) in
    bare_placed R P U S (rw e at c.if-e-gt0-2.false)
