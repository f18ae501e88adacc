use Rattle.std.proofs.Common.{refl, ap, ◌∙◌}
use Rattle.nr_entry.specs.Waiting.{Held}
use Rattle.nr_entry.proofs.Lending.{seen_settled}
use Rattle.nr_entry.proofs.waiting.Waiting.take_lent.Goals as goal

pub returns : goal.returns
returns c = seen_settled 0 c.settle.new.runs.items c.args.self.now.jobs refl c.settle.ensures.lent (c.settle.ensures.jobs ∙ ap (λ (h : Held). h.jobs) c.self.view_is)
