use Rattle.std.proofs.Common.{rules, ◌∙◌, ap, sym}
use Rattle.nr_entry.specs.Jobs.{connection_of}
use Rattle.nr_pubsub.specs.Holdings.{all_held_of}
use Rattle.nr_pubsub.proofs.Indexed.{ok_then, err_then}
use Rattle.nr_pubsub.proofs.Held.{subscribed_is, first_subscribed, written_back, held_at}
use Rattle.nr_pubsub.proofs.holders.Holders.subscribe.Goals as goal

pub returns-in-Some-clause-ok : goal.returns-in-Some-clause-ok
returns-in-Some-clause-ok c =
    let after = c.subscribe.new.self in
    ok_then c.subscribe.result c.subscribe.ensures.ok (λ is.
    subscribed_is c.self.inside.by_conn.entries (c.get_mut.follows.lender after).entries c.args.self.now (connection_of c.args.conn) c.args.kind c.args.name
    c.in-Some.holding.now after c.self.view_is c.in-Some.ensures.value ((c.get_mut.follows.holds after).3 (search rules)).0 is)

pub returns-in-Some-clause-err : goal.returns-in-Some-clause-err
returns-in-Some-clause-err c =
    let after = c.subscribe.new.self in
    err_then c.subscribe.result c.subscribe.ensures.err (λ is.
    written_back c.self.inside.by_conn.entries (c.get_mut.follows.lender after).entries (connection_of c.args.conn)
    c.in-Some.holding.now after c.in-Some.ensures.value ((c.get_mut.follows.holds after).3 (search rules)).0 is
    ∙ c.self.view_is)

pub returns-in-None-clause-ok : goal.returns-in-None-clause-ok
returns-in-None-clause-ok c =
    let same = c.get_mut.follows.holds-at-none in
    ok_then c.begin.result c.begin.ensures.ok
    (first_subscribed c.get_mut.follows.lender-at-none.entries c.args.self.now c.begin.new.self (connection_of c.args.conn) c.args.kind c.args.name
    (ap (λ m. all_held_of m.entries) same ∙ c.self.view_is) (c.in-None.ensures.value ∙ sym (ap (λ m. held_at m.entries (connection_of c.args.conn)) same)))
