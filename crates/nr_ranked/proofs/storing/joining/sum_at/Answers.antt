use Rattle.std.proofs.Common.{◌∙◌}
use Rattle.nr_ranked.proofs.StoringSums.{found_sum}
use Rattle.nr_ranked.proofs.storing.joining.sum_at.Goals as goal

pub returns : goal.returns
returns c = c.copied.ensures ∙ c.get.ensures.value ∙ found_sum c.args.sums.now.entries c.args.member.now
