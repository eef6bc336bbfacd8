-- `ber::put` meets its contract.
-- Assumes nothing.
use Rattle.std.proofs.Common.{refl, ◌+◌, length}
use Rattle.octets.proofs.Buffers.{part_filled}
use Rattle.ber.proofs.Headers.{room, puts}
use Rattle.ber.proofs.put.Goals as goal

pub returns : goal.returns
returns c =
    let w = c.args.w.now in
    let b = c.args.buf.now in
    let to = c.args.to in
    let n = length w in
    let h = room w to (length b) n _ refl c.holds.ensures c.if-not-holds.false in
    puts b to w h w (to + n) _ refl refl (part_filled b w _ to n refl h c.copy.ensures)
