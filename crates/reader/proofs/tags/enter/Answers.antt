-- `reader::tags::enter` meets its contract.
-- Assumes nothing.
use Rattle.std.proofs.Common.{◌≡◌, Err, rules}
use Rattle.reader.proofs.Tagging.{enters_over, enters_broken, enters_more}
use Rattle.reader.proofs.tags.enter.Goals as goal

pub returns-in_err-read : goal.returns-in_err-read
returns-in_err-read c =
    let e : c.from_residual.result ≡ Err c.in_err-read.field-0.0 = search rules in
    rw e (enters_broken _ _ _ c.args.indefinite _ c.read.ensures _ c.in_err-read.was)

pub returns-in-None : goal.returns-in-None
returns-in-None c = enters_more _ _ _ c.args.indefinite _ c.read.ensures (rw c.in-None.is at c.in_ok-read.was) _ c.awaited.ensures

pub returns-in-Some : goal.returns-in-Some
returns-in-Some c = enters_over _ _ _ c.args.indefinite _ c.read.ensures _ (rw c.in-Some.is at c.in_ok-read.was)
