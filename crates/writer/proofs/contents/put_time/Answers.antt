-- By the part of the buffer that comes back.
-- Assumes nothing.
use Rattle.std.proofs.Common.{rules}
use Rattle.writer.proofs.Stores.{time_put}
use Rattle.writer.proofs.contents.put_time.Goals as goal

pub returns : goal.returns
returns c = search (rules, time_put, c.put.ensures.1)
