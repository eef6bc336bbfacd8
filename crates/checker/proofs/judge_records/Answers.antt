-- What each rule has found is what the next asks.
use Rattle.std.proofs.Common.{refl}
use Rattle.checker.proofs.Judged.{named, unfound}
use Rattle.checker.proofs.judge_records.Goals as goal

pub judge_choices-requires : goal.judge_choices-requires
judge_choices-requires c =
    named _ _ _ _ c.args.w.now.filled.shaped refl (unfound _ c.lowest-dangling.ensures c.in_ok-unless_found.ensures) refl
    (unfound _ c.lowest-mistagged.ensures c.in_ok-unless_found-2.ensures)
