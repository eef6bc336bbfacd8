-- What each rule has found is what the next asks.
use Rattle.std.proofs.Common.{refl}
use Rattle.checker.proofs.Rules.{filled_beyond}
use Rattle.checker.proofs.Judged.{ready, straight, unfound}
use Rattle.checker.proofs.judge_choices.Goals as goal

pub invariant_of-known : goal.invariant_of-known
invariant_of-known c =
    let x = c.args.w.now.filled in
    let m = c.requires in
    let n = x.count in
    record { octets = c.args.w.now.octets; counted = n; filled = rw n at x; ready = rw n at (ready _ _ m c.stand_ins-nodes.ensures); named = rw n at m }

pub lowest_sharing-sharing-requires : goal.lowest_sharing-sharing-requires
lowest_sharing-sharing-requires c =
    let x = c.args.w.now.filled in
    let m = c.requires in
    straight _ _ m (filled_beyond x) _ refl (unfound _ c.lowest_circular-circular.ensures c.in_ok-unless_found.ensures)
