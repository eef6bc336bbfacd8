-- `reader::set::locate` meets its contract.
-- Assumes nothing.
use Rattle.std.proofs.Common.{drop, length-drop, arith}
use Rattle.ber.proofs.Skipping.{item_ends}
use Rattle.checker.proofs.Ready.{ready_by}
use Rattle.reader.proofs.LeafStores.{from_is}
use Rattle.reader.proofs.Locating.{set_sound, located_first, located_over, located_none, place_low, end_further, located_turn}
use Rattle.reader.proofs.set.locate.Goals as goal

pub loop-rest-init : goal.loop-rest-init
loop-rest-init c =
    let x = c.args.table.now in
    record { low = omega arith; spots = located_first (ready_by x) c.requires.0 _ c.args.indefinite _ c.requires.3 }

pub search-requires : goal.search-requires
search-requires c =
    let x = c.args.table.now in
    set_sound (ready_by x) c.requires.0 c.requires.1 _

pub returns-in_default : goal.returns-in_default
returns-in_default c =
    let x = c.args.table.now in
    let v = c.loop-rest.invariant in
    located_none (ready_by x) c.requires.0 _ c.args.indefinite _ _ v.low v.spots _ c.is_over.ensures c.loop-rest-test.true _ _
    (rw from_is at c.search.ensures) _ c.in_default.is _

pub offset_bounds-began-place : goal.offset_bounds-began-place
offset_bounds-began-place c =
    let l = c.loop-rest in
    let x = c.args.table.now in
    let q = place_low (ready_by x) c.requires.0 l.began (drop l.at c.args.m.now) _ _ (rw from_is at c.search.ensures) _ c.in-Ok.is
    c.requires.1 in
    omega arith

pub bounds-began-place : goal.bounds-began-place
bounds-began-place c =
    let l = c.loop-rest in
    let x = c.args.table.now in
    place_low (ready_by x) c.requires.0 l.began (drop l.at c.args.m.now) _ _ (rw from_is at c.search.ensures) _ c.in-Ok.is c.requires.1

pub overflow_add-at : goal.overflow_add-at
overflow_add-at c =
    let q = (item_ends _ _ (rw from_is at c.end-at.ensures)).1 in
    omega (arith, length-drop c.loop-rest.at c.args.m.now)

pub loop-rest-smaller : goal.loop-rest-smaller
loop-rest-smaller c =
    let l = c.loop-rest in
    let x = c.args.table.now in
    let (e, q, _) = item_ends _ _ (rw from_is at c.end-at.ensures) in
    let f = end_further (ready_by x) c.requires.0 l.began (drop l.at c.args.m.now) _ _ (rw from_is at c.search.ensures) _ c.in-Ok.is _ e in
    omega (arith, length-drop l.at c.args.m.now)

pub loop-rest-preserved : goal.loop-rest-preserved
loop-rest-preserved c =
    let a = c.args in
    let l = c.loop-rest in
    let x = c.args.table.now in
    let v = l.invariant in
    let (_, q, e) = item_ends _ _ (rw from_is at c.end-at.ensures) in
    record {
      low = omega (arith, length-drop l.at a.m.now);
      spots = located_turn (ready_by x) c.requires.0 a.m.now a.indefinite l.began l.at v.low v.spots _ c.is_over.ensures c.loop-rest-test.true
          _ _ (rw from_is at c.search.ensures) _ c.in-Ok.is _ e;
    }

pub returns : goal.returns
returns c =
    let x = c.args.table.now in
    let v = c.loop-rest.invariant in
    located_over (ready_by x) c.requires.0 _ c.args.indefinite _ _ v.low v.spots _ c.is_over.ensures c.loop-rest-test.false _ c.behind.ensures
