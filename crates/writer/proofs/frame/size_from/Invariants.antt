-- The items by the tags from the i-th on are around `total` octets.
-- Assumes nothing.
use Rattle.std.proofs.Common.{◌≡◌, ◌-◌, ◌<◌}
use Rattle.table.specs.Reading.{tags_at}
use Rattle.records.specs.Entries.{tag_place}
use Rattle.records.specs.Descriptors.{entry_of, described}
use Rattle.writer.specs.Frames.{framed}
use Rattle.writer.specs.Known.{tags_from}
use Rattle.writer.proofs.frame.size_from.Given as goal

abbrev pub invariant-loop-i : goal.invariant-loop-i
invariant-loop-i l =
    (l.total < 8194) × (framed (tags_from l.table (described l.w) l.j) l.n ≡ framed (tags_at l.table (tag_place (entry_of (described l.w)) l.j) (l.i - l.j)) l.total)
