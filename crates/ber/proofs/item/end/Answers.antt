-- `ber::item::end` meets its contract.
-- Assumes nothing.
use Rattle.std.proofs.Common.{◌∙◌, arith}
use Rattle.ber.proofs.Told.{length_indefinite}
use Rattle.ber.proofs.Skipping.{skip_none, skip_sized, skip_indefinite}
use Rattle.ber.proofs.item.end.Goals as goal

pub returns-in-Err : goal.returns-in-Err
returns-in-Err c = omega (arith, skip_none c.args.m.now c.args.from _ c.read.ensures.0 _ c.in-Err.is)

pub open_end-requires : goal.open_end-requires
open_end-requires c = (length_indefinite c.args.m.now c.args.from 0 _ (c.read.ensures.0 0) _ c.in-Ok.is c.if-x.true).2

pub returns-in-Ok : goal.returns-in-Ok
returns-in-Ok c = c.open_end.ensures ∙ skip_indefinite c.args.m.now _ _ c.read.ensures.0 _ c.in-Ok.is c.if-x.true

pub returns-in-Ok-2 : goal.returns-in-Ok-2
returns-in-Ok-2 c = skip_sized c.args.m.now _ _ c.read.ensures.0 _ c.in-Ok.is c.if-x.false
