-- `reader::search::seek` meets its contract.
-- Assumes nothing.
use Rattle.std.proofs.Common.{sym, ◌∙◌, arith}
use Rattle.checker.proofs.Ready.{ready_by}
use Rattle.records.proofs.Promises.{first_described}
use Rattle.reader.proofs.Among.{code_is, code_most, seek_here, seek_other}
use Rattle.reader.proofs.search.seek.Goals as goal

pub bounds-table-t : goal.bounds-table-t
bounds-table-t c = let x = c.args.table.now in omega (arith, c.requires.0, (ready_by x).passes.few)

pub begins-requires : goal.begins-requires
begins-requires c = let x = c.args.table.now in code_most (ready_by x) _ c.requires.0

pub returns-then-begins : goal.returns-then-begins
returns-then-begins c =
    let x = c.args.table.now in
    seek_here (ready_by x) _ _ _ _ c.requires.1 c.requires.0 c.begins.ensures c.if-begins.true

pub returns-then-first-ne-UNTAGGED : goal.returns-then-first-ne-UNTAGGED
returns-then-first-ne-UNTAGGED c =
    let x = c.args.table.now in
    seek_other (ready_by x) _ c.args.way.now _ _ _ c.requires.1 c.requires.0 c.begins.ensures c.if-begins.false (c.first.ensures ∙ first_described _)
    c.if-first-ne-UNTAGGED.true

pub among-requires : goal.among-requires
among-requires c =
    let x = c.args.table.now in
    (c.requires.0, sym (code_is (ready_by x) _ _ c.requires.0 (c.first.ensures ∙ first_described _)) ∙ c.if-first-ne-UNTAGGED.false, c.requires.1)
