-- The days of a year before a month: by the table.
use Rattle.dates.proofs.Days.{before_early, before_leap, before_plain, whole_year}
use Rattle.clock.proofs.seconds.before_month.Goals as goal

pub returns-then-month-gt12 : goal.returns-then-month-gt12
returns-then-month-gt12 c = (rw (whole_year _ _ c.if-month-gt12.true) c.year_days.ensures.0, c.year_days.ensures.1)

pub returns-then-month-lt3 : goal.returns-then-month-lt3
returns-then-month-lt3 c = before_early c.args.year c.args.month c.if-month-lt3.true

pub returns-then-is_leap : goal.returns-then-is_leap
returns-then-is_leap c =
    before_leap c.args.year c.args.month c.if-month-lt3.false c.if-month-gt12.false c.is_leap.ensures c.if-is_leap.true

pub returns : goal.returns
returns c = before_plain c.args.year c.args.month c.if-month-gt12.false c.is_leap.ensures c.if-is_leap.false
