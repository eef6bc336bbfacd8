-- By the part of the buffer that comes back.
-- Assumes nothing.
use Rattle.writer.proofs.Stores.{copy_put}
use Rattle.writer.proofs.contents.put_part.Goals as goal

pub returns : goal.returns
returns c = copy_put _ _ _ c.requires.1 _ _ _ c.requires.0 c.copy.ensures
