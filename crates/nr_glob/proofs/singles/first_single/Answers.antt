use Rattle.std.proofs.Common.{◌∙◌, arith}
use Rattle.nr_glob.proofs.Reading.{part_opening, outside-any, outside-byte}
use Rattle.nr_glob.proofs.singles.first_single.Goals as goal

pub returns-in-91-clause-part : goal.returns-in-91-clause-part
returns-in-91-clause-part c = part_opening c.args.first c.args.behind.now c.in-91.is ∙ c.opened.ensures.part

pub returns-in-63-clause-part : goal.returns-in-63-clause-part
returns-in-63-clause-part c = outside-any c.args.first c.args.behind.now c.in-63.is

pub returns-in_default-clause-part : goal.returns-in_default-clause-part
returns-in_default-clause-part c = outside-byte c.args.first c.args.behind.now c.requires (λ is. omega arith) (λ is. omega arith) (λ is. omega arith)
