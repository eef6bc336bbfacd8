use Rattle.std.proofs.Common.{refl}
use Rattle.reader.specs.Leaves.{is_in_segments}
use Rattle.reader.proofs.contents.in_segments.Goals as goal

pub returns : goal.returns
unfolding is_in_segments
returns c = refl
