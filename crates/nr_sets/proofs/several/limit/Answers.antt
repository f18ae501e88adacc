use Rattle.nr_sets.proofs.Chosen.{no_limit, some_limit}
use Rattle.nr_sets.proofs.several.limit.Goals as goal

pub returns-then-most-eq0 : goal.returns-then-most-eq0
returns-then-most-eq0 c members few = no_limit c.args.most c.args.all members c.if-most-eq0.true few

pub returns-else-most-eq0 : goal.returns-else-most-eq0
returns-else-most-eq0 c members few = some_limit c.args.most members c.if-most-eq0.false
