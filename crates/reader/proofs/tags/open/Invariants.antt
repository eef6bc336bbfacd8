-- What holds while `reader::tags::open` opens tags: what is read under those that are opened, closed again by their notes, is what is read of the record.
-- Assumes nothing.
use Rattle.std.proofs.Common.{◌≡◌, length}
use Rattle.records.specs.Descriptors.{described}
use Rattle.reader.specs.Records.{record_in}
use Rattle.reader.proofs.Opening.{Opening}
use Rattle.reader.proofs.tags.open.Given as goal

abbrev pub invariant-loop-j : goal.invariant-loop-j
invariant-loop-j l = record {
  four : length l.notes ≡ 4;
  «open» : Opening l.table.octets.now (record_in l.table.octets.now (described l.w)) l.m l.fn.at l.notes l.at l.from l.end l.j;
}
