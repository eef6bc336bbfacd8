-- `ber::item::put_header` meets its contract.
-- Assumes nothing.
use Rattle.std.proofs.Common.{◌++◌, ◌∙◌}
use Rattle.x690.specs.Length.{length_octets}
use Rattle.ber.specs.Codes.{code_octets}
use Rattle.ber.proofs.Headers.{room, put_behind}
use Rattle.ber.proofs.item.put_header.Goals as goal

pub returns : goal.returns
returns c =
    let v = code_octets c.args.code in
    let w = length_octets c.args.n in
    let fits = room (v ++ w) _ _ _ _ c.header_size.ensures c.holds.ensures c.if-not-holds.false in
    let (p, q) = put_behind c.args.buf.now c.args.to v w fits _ _ c.put-next.ensures.0 c.put-next.ensures.1 in
    (c.put.ensures.0 ∙ p, c.put.ensures.1 ∙ q)
