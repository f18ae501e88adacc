use Rattle.std.proofs.Common.{◌≡◌, length, rules}
use Rattle.nr_replica.proofs.Held.{backlog_seen}
use Rattle.nr_replica.proofs.members.NodeMembers.holds_back.Goals as goal

pub returns-clause-reason : goal.returns-clause-reason
returns-clause-reason c = λ node held.
    let workers = c.args.self.now.workers.items in
    let all : c.len-opened.result ≡ length workers = search rules in
    backlog_seen node c.len-opened.result workers c.args.self.now.outboxes.entries all (c.holds_back.ensures held)
