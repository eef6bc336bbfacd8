-- A shaped record has its head.
use Rattle.std.proofs.Common.{refl, ◌∙◌, arith}
use Rattle.records.specs.Entries.{entry_at}
use Rattle.records.proofs.Entries.{heads}
use Rattle.checker.proofs.index.entry.Goals as goal

pub overflow_add-kind : goal.overflow_add-kind
overflow_add-kind c = omega (arith, (heads c.args.table.now c.args.o c.requires.1).1)

pub bounds-table-o : goal.bounds-table-o
bounds-table-o c = omega (arith, (heads c.args.table.now c.args.o c.requires.1).1)

pub overflow_add-tags : goal.overflow_add-tags
overflow_add-tags c = omega (arith, (heads c.args.table.now c.args.o c.requires.1).1)

pub bounds-table-o-2 : goal.bounds-table-o-2
bounds-table-o-2 c = omega (arith, (heads c.args.table.now c.args.o c.requires.1).1)

pub returns : goal.returns
unfolding entry_at
returns c = c.pack.ensures ∙ rw (c.outermost-code.ensures, c.explicit.ensures, c.constructed-simple.ensures) refl
