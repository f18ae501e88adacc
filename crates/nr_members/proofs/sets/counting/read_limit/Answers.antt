use Rattle.std.proofs.Common.{rules}
use Rattle.nr_members.proofs.SetLimits.{limit_read}
use Rattle.nr_members.proofs.sets.counting.read_limit.Goals as goal

pub returns-clause-read : goal.returns-clause-read
returns-clause-read c =
    limit_read c.args.limit.now c.args.word.now c.in-Some.value.now c.args.behind.now c.in-Some.behind.now c.in_ok-limit.field-0 (search rules) c.in-Some.ensures.cases.0
    c.in_ok-limit.ensures.limit
