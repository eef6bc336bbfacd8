-- A message is what its one item is.
use Rattle.std.proofs.Common.{arith}
use Rattle.checker.proofs.Ready.{ready_by}
use Rattle.reader.proofs.PlacedValue.{whole_asks, whole_placed}
use Rattle.reader.proofs.place.place.Goals as goal

pub overflow_cast-t : goal.overflow_cast-t
overflow_cast-t c = omega (arith, c.requires.0, (ready_by c.args.table.now).listed.few)

pub place_members-requires : goal.place_members-requires
place_members-requires c = let p = c.requires in whole_asks _ _ _ c.whole.ensures _ p.0 p.1 p.2

pub returns : goal.returns
returns c = whole_placed _ _ _ c.whole.ensures _ c.place_members.ensures
