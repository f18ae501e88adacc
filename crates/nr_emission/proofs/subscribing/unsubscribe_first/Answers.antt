use Rattle.nr_entry.specs.Jobs.{connection_of}
use Rattle.nr_emission.proofs.Acknowledged.{none_given_up, one_given_up}
use Rattle.nr_emission.proofs.subscribing.unsubscribe_first.Goals as goal

pub returns-in_default-clause-given_up : goal.returns-in_default-clause-given_up
returns-in_default-clause-given_up g c =
    none_given_up g.S.Sink.after c.args.node (connection_of c.args.conn) c.args.kind c.args.subs.now c.args.out.now c.in_default.ensures.first

pub returns-clause-given_up : goal.returns-clause-given_up
returns-clause-given_up g c =
    one_given_up g.S.Sink.after c.args.node (connection_of c.args.conn) c.args.kind c.args.subs.now c.unsubscribe_next.new.subs c.args.out.now
    c.unsubscribe_next.new.out
    c.in-Some.first.now _ c.in-Some.ensures.first c.in-Some.ensures.ordered c.in_ok-name.ensures.copied c.in_ok-unsubscribe_next.ensures.subs
    c.in_ok-unsubscribe_next.ensures.emitted
