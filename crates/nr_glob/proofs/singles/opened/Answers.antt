use Rattle.nr_glob.proofs.Reading.{opens_nothing, opens_negated, opens_plain}
use Rattle.nr_glob.proofs.singles.opened.Goals as goal

pub returns-in-empty-clause-part : goal.returns-in-empty-clause-part
returns-in-empty-clause-part c = opens_nothing c.args.behind.now c.in-empty.len_below

pub returns-then-first-eq94-clause-part : goal.returns-then-first-eq94-clause-part
returns-then-first-eq94-clause-part c =
    opens_negated c.args.behind.now c.class_rest.result.now c.in-len1-up.len_at_least c.if-first-eq94.true c.class_rest.ensures.rest

pub returns-else-first-eq94-clause-part : goal.returns-else-first-eq94-clause-part
returns-else-first-eq94-clause-part c =
    opens_plain c.args.behind.now c.class_rest-else-first-eq94.result.now c.in-len1-up.len_at_least c.if-first-eq94.false
    c.class_rest-else-first-eq94.ensures.rest
