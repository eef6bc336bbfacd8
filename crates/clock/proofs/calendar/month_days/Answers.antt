-- The days of a month: by the table, but for February.
use Rattle.std.proofs.Common.{sym}
use Rattle.dates.proofs.Days.{plain_month, no_month, second_month}
use Rattle.clock.proofs.calendar.month_days.Goals as goal

pub returns-then-month-gt12 : goal.returns-then-month-gt12
returns-then-month-gt12 c = sym (no_month _ _ c.if-month-gt12.true)

pub returns-then-month-eq2 : goal.returns-then-month-eq2
returns-then-month-eq2 c = second_month _ _ _ c.if-month-eq2.true c.february.ensures

pub returns : goal.returns
returns c = plain_month _ _ c.if-month-eq2.false
