use Rattle.std.proofs.Common.{sym}
use Rattle.nr_glob.proofs.Marks.{no_range-plain, range_read}
use Rattle.nr_glob.proofs.classes.range_end.Goals as goal

pub returns-then-not-is_dash-clause-range : goal.returns-then-not-is_dash-clause-range
returns-then-not-is_dash-clause-range c = no_range-plain c.args.behind.now _ _ c.in-Some.ensures.mark (sym c.if-not-is_dash.ensures)

pub returns-clause-range : goal.returns-clause-range
returns-clause-range c = range_read c.args.behind.now _ _ _ _ c.in-Some.ensures.mark (sym c.if-not-is_dash.ensures) c.in-Some-first_mark.ensures.mark
