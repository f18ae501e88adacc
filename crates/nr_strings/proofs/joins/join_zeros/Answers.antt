use Rattle.nr_strings.proofs.Joined.{cleared, kept}
use Rattle.nr_strings.proofs.joins.join_zeros.Goals as goal

pub returns-in-And : goal.returns-in-And
returns-in-And c = cleared c.args.operation _ c.args.bytes.now c.in-And.is (c.fill.ensures.after (λ y is. is))

pub returns-in-Or : goal.returns-in-Or
returns-in-Or c = kept c.args.operation c.args.bytes.now c.in-Or.is
