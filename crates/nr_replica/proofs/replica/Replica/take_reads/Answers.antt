use Rattle.std.proofs.Common.{◌≡◌, rules}
use Rattle.nr_model.specs.Entries.{read_jobs}
use Rattle.nr_model.specs.Servers.{emitted_all}
use Rattle.nr_model.specs.Nodes.Steps.{texts_for}
use Rattle.nr_entry.specs.Jobs.{items_of}
use Rattle.nr_replica.specs.Members.{members_seen}
use Rattle.nr_replica.proofs.Kept.{are_reads, own_left_by_reads}
use Rattle.nr_replica.proofs.Received.{received_numbered}
use Rattle.nr_replica.proofs.replica.Replica.take_reads.Goals as goal

pub take_all-requires-clause-reads : goal.take_all-requires-clause-reads
take_all-requires-clause-reads c =
    let is : items_of c.deref-2.result.now ≡ read_jobs (items_of c.self.inside.waiting.jobs) = search rules in
    are_reads (items_of c.self.inside.waiting.jobs) (items_of c.deref-2.result.now) is

pub invariant_of-self-2 : goal.invariant_of-self-2
invariant_of-self-2 c =
    let inside = c.self.inside in
    let keeps = c.self.invariant in
    let olds = members_seen inside.node inside.members in
    let news = members_seen inside.node c.take_all.new.members in
    let es = emitted_all c.in-Some.machine.now.state (items_of c.deref-2.result.now) in (
      keeps.0,
      c.in_ok-taken.ensures.whole.0,
      received_numbered inside.node 0 (λ k. texts_for k es) olds news keeps.2 c.take_all.ensures.delivered,
      keeps.3,
      own_left_by_reads inside.node (items_of inside.waiting.jobs) (items_of c.take_reads.new.self.jobs) c.in_ok-taken.ensures.left keeps.4,
      c.take_all.ensures.ready,
    )
