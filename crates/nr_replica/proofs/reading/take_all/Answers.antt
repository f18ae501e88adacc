use Rattle.std.proofs.Common.{◌≡◌, ◌+◌, ◌-◌, List, [], sym, subst, arith, rules, take, drop}
use Rattle.nr_model.specs.Nodes.Steps.{texts_for}
use Rattle.nr_model.specs.Servers.{emitted_all}
use Rattle.nr_entry.specs.Jobs.{item_of, items_of}
use Rattle.nr_replica.specs.Lent.{RepliesState, AreRunBy, AreRepliesTo}
use Rattle.nr_replica.specs.Members.{AreDelivered, members_seen}
use Rattle.nr_replica.proofs.Received.{nothing_received, received_numbered}
use Rattle.nr_replica.proofs.Runs.{drop_long, none_left, next_run, delivered_next, delivered_whole}
use Rattle.nr_replica.proofs.reading.take_all.Goals as goal

pub loop-run-init : goal.loop-run-init
loop-run-init c =
    (omega arith, search (rules, c.requires.prepared), c.requires.numbered, c.requires.ready, nothing_received (members_seen c.args.node c.args.members.now))

pub overflow_add-upto : goal.overflow_add-upto
overflow_add-upto c =
    let s = c.args.machine.now.state in
    let reads = c.args.reads.now in
    let from = c.loop-run.from in
    let are = subst (λ (rs : List RepliesState). AreRepliesTo s (items_of (drop from reads)) rs) c.in-Some.ensures.steps.0 c.loop-run.invariant.1 in
    let next = next_run item_of s from reads c.in-Some.run' c.next.new.self.rest.items are in
    let long = drop_long from reads c.loop-run.invariant.0 in
    omega (arith, c.count.ensures, next.0, long)

pub slice_bounds-take_run-end : goal.slice_bounds-take_run-end
slice_bounds-take_run-end c =
    let s = c.args.machine.now.state in
    let reads = c.args.reads.now in
    let from = c.loop-run.from in
    let are = subst (λ (rs : List RepliesState). AreRepliesTo s (items_of (drop from reads)) rs) c.in-Some.ensures.steps.0 c.loop-run.invariant.1 in
    let next = next_run item_of s from reads c.in-Some.run' c.next.new.self.rest.items are in
    let long = drop_long from reads c.loop-run.invariant.0 in
    omega (arith, c.count.ensures, next.0, long)

pub take_run-requires-clause-prepared : goal.take_run-requires-clause-prepared
take_run-requires-clause-prepared c =
    let s = c.args.machine.now.state in
    let reads = c.args.reads.now in
    let from = c.loop-run.from in
    let are = subst (λ (rs : List RepliesState). AreRepliesTo s (items_of (drop from reads)) rs) c.in-Some.ensures.steps.0 c.loop-run.invariant.1 in
    let next = next_run item_of s from reads c.in-Some.run' c.next.new.self.rest.items are in
    let many : c.in-Some.run'.count ≡ (from + c.count.result) - from = omega (arith, c.count.ensures) in
    subst (λ n. AreRunBy s (items_of (take n (drop from reads))) c.in-Some.run') many next.1

pub loop-run-preserved : goal.loop-run-preserved
loop-run-preserved c =
    let s = c.args.machine.now.state in
    let node = c.args.node in
    let reads = c.args.reads.now in
    let from = c.loop-run.from in
    let left = c.next.new.self.rest.items in
    let are = subst (λ (rs : List RepliesState). AreRepliesTo s (items_of (drop from reads)) rs) c.in-Some.ensures.steps.0 c.loop-run.invariant.1 in
    let next = next_run item_of s from reads c.in-Some.run' left are in
    let long = drop_long from reads c.loop-run.invariant.0 in
    let many : (from + c.count.result) - from ≡ c.count.result = omega arith in
    let olds = members_seen node c.args.members.now in
    let mids = members_seen node c.loop-run.members in
    let news = members_seen node c.take_run.new.members in
    let own = items_of (take ((from + c.count.result) - from) (drop from reads)) in (
      omega (arith, c.count.ensures, next.0, long),
      subst (λ n. AreRepliesTo s (items_of (drop (from + n) reads)) left) (sym c.count.ensures) next.2,
      received_numbered node 0 (λ k. texts_for k (emitted_all s own)) mids news c.loop-run.invariant.2 c.take_run.ensures.delivered,
      c.take_run.ensures.ready,
      delivered_next item_of s from c.count.result reads olds mids news c.requires.reads c.loop-run.invariant.4
          (subst (λ n. AreDelivered (emitted_all s (items_of (take n (drop from reads)))) mids news) many c.take_run.ensures.delivered),
    )

pub returns-clause-delivered : goal.returns-clause-delivered
returns-clause-delivered c =
    let s = c.args.machine.now.state in
    let reads = c.args.reads.now in
    let from = c.loop-run.from in
    let rest = c.loop-run.run-iterator.rest in
    let none : rest.items ≡ [] = none_left rest.items (omega (arith, rest.ok.0, c.in-None.ensures.steps.0)) in
    delivered_whole item_of s from reads (members_seen c.args.node c.args.members.now) (members_seen c.args.node c.loop-run.members)
    (subst (λ (rs : List RepliesState). AreRepliesTo s (items_of (drop from reads)) rs) none c.loop-run.invariant.1) c.loop-run.invariant.4
