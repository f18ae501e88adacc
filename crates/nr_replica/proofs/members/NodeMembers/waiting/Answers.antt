use Rattle.std.proofs.Common.{ap, sym, ◌∙◌, length}
use Rattle.nr_replica.specs.Members.{Member}
use Rattle.nr_replica.proofs.Listed.{open_at, closed_at}
use Rattle.nr_replica.proofs.members.NodeMembers.waiting.Goals as goal

pub returns-in-Some : goal.returns-in-Some
returns-in-Some c = λ node d.
    let e = open_at node c.args.self.now.workers.items c.args.self.now.outboxes.entries c.args.serial d _ c.requires c.in-Some.ensures in
    c.len.ensures ∙ ap (λ (m : Member). length m.outbox.waiting) (sym e)

pub returns-in-None : goal.returns-in-None
returns-in-None c = λ node d.
    let e = closed_at node c.args.self.now.workers.items c.args.self.now.outboxes.entries c.args.serial d c.requires c.in-None.ensures in
    ap (λ (m : Member). length m.outbox.waiting) (sym e)
