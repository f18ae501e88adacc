use Rattle.nr_replica.specs.Members.{members_seen}
use Rattle.nr_replica.proofs.CutAll.{members_cut, all_ready}
use Rattle.nr_replica.proofs.members.NodeMembers.cut_all.Goals as goal

pub returns-clause-cut : goal.returns-clause-cut
returns-clause-cut c = λ node. members_cut node c.args.self.now.workers.items c.args.self.now.outboxes.entries c.cut_all.new.outboxes.entries c.cut_all.ensures

pub returns-clause-ready : goal.returns-clause-ready
returns-clause-ready c = λ node ready.
    all_ready c.args.self.now.ready.sets.items (members_seen node c.args.self.now) _
    (members_cut node c.args.self.now.workers.items c.args.self.now.outboxes.entries c.cut_all.new.outboxes.entries c.cut_all.ensures) ready
