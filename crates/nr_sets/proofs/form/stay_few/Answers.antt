use Rattle.nr_sets.proofs.Few.{few_if_there, few_if_fewer}
use Rattle.nr_sets.proofs.form.stay_few.Goals as goal

pub returns-then-count-eq-MOST_MEMBERS : goal.returns-then-count-eq-MOST_MEMBERS
returns-then-count-eq-MOST_MEMBERS c =
    few_if_there c.args.member.now c.args.members.now c.len-count.result c.stands_in.result c.requires c.len-count.ensures.len c.if-count-eq-MOST_MEMBERS.true c.stands_in.ensures

pub returns : goal.returns
returns c = few_if_fewer c.args.member.now c.args.members.now c.len-count.result c.requires c.len-count.ensures.len c.if-count-eq-MOST_MEMBERS.false
