-- The order of times: that which is derived for them.
use Rattle.dates.proofs.Ordered.{order_by_cmp}
use Rattle.clock.proofs.seconds.order.Goals as goal

pub returns-in-Less : goal.returns-in-Less
returns-in-Less c = order_by_cmp c.args.a c.args.b _ c.in-Less.ensures

pub returns-in-Equal : goal.returns-in-Equal
returns-in-Equal c = order_by_cmp c.args.a c.args.b _ c.in-Equal.ensures

pub returns-in-Greater : goal.returns-in-Greater
returns-in-Greater c = order_by_cmp c.args.a c.args.b _ c.in-Greater.ensures
