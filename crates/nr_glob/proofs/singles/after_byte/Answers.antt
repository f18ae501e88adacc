use Rattle.std.proofs.Common.{sym}
use Rattle.nr_glob.proofs.Steps.{this_byte}
use Rattle.nr_glob.proofs.singles.after_byte.Goals as goal

pub returns-then-consumes-clause-step : goal.returns-then-consumes-clause-step
returns-then-consumes-clause-step c = this_byte c.args.single c.args.text.now c.in-len1-up.len_at_least (sym c.if-consumes.ensures)
