use Rattle.nr_replica.specs.Members.{members_seen}
use Rattle.nr_replica.proofs.Waiting.{next_by_sets}
use Rattle.nr_replica.proofs.members.NodeMembers.next_ready.Goals as goal

pub returns : goal.returns
returns c = λ node ready.
    next_by_sets c.args.self.now.ready.sets.items (members_seen node c.args.self.now) c.args.worker c.args.from c.next.result ready c.next.ensures.has c.next.ensures.behind
    c.next.ensures.least c.next.ensures.none
