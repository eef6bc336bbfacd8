use Rattle.std.proofs.Common.{refl}
use Rattle.dates.specs.Own.{time_octets}
use Rattle.x690.specs.Time.{time_of}
use Rattle.octets.proofs.Buffers.{part_filled}
use Rattle.reader.proofs.contents.put_time.Goals as goal

pub returns : goal.returns
unfolding time_octets
returns c =
    let w = time_octets (time_of c.args.kind c.args.c.now) in
    (refl, part_filled _ w _ _ 7 refl c.requires.1 (rw (c.of.ensures.1 c.requires.0) at c.put.ensures))
