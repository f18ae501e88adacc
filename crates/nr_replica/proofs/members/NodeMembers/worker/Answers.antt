use Rattle.std.proofs.Common.{◌≡◌, get_or, ◌∙◌, rules}
use Rattle.std.proofs.lemmas.Grind.{get_or_default_zero}
use Rattle.nr_replica.proofs.Listed.{worker_at}
use Rattle.nr_replica.proofs.members.NodeMembers.worker.Goals as goal

pub returns : goal.returns
returns c = λ node d.
    let workers = c.args.self.now.workers.items in
    let worker = c.index.result.now in
    let is : worker ≡ get_or workers c.args.serial worker = search rules in
    is ∙ get_or_default_zero workers c.args.serial worker c.requires ∙ worker_at node workers c.args.self.now.outboxes.entries c.args.serial d c.requires
