use Rattle.std.proofs.Common.{◌∷◌, [], subst}
use Rattle.std.specs.Map.Iter.{deref}
use Rattle.std.proofs.lemmas.Map.Iter.{rest_more}
use Rattle.nr_entry.specs.Jobs.{connection_of}
use Rattle.nr_pubsub.specs.Standings.{connections}
use Rattle.nr_emission.specs.Parts.{to_each}
use Rattle.nr_emission.proofs.Sent.{Sent, sent_more, front_unchanged, on_err}
use Rattle.nr_emission.proofs.publishing.share_all.Goals as goal

pub loop-conn-preserved : goal.loop-conn-preserved
loop-conn-preserved g c = λ reply is.
    sent_more g.S.Sink.after c.args.node c.args.out.now c.loop-conn.out c.share.new.out (to_each reply (connections c.args.receivers.now.keys))
    (to_each reply (connection_of c.in-Some.conn.now ∷ [])) (to_each reply (connections c.next.new.self)) (c.in_ok-share.ensures.emitted reply is)
    (subst (λ conns. Sent g.S.Sink.after c.args.node c.args.out.now c.loop-conn.out (to_each reply (connections c.args.receivers.now.keys))
    (to_each reply (connections conns)))
    (rest_more deref c.loop-conn.conn-iterator c.next.new.self c.next.result c.in-Some.conn c.in-Some.is c.next.ensures.steps) (c.loop-conn.invariant reply is))

pub returns-in_err-share-clause-partly : goal.returns-in_err-share-clause-partly
returns-in_err-share-clause-partly g c = λ reply is.
    on_err c.from_residual.result _
    (front_unchanged g.S.Sink.after c.args.node c.args.out.now c.loop-conn.out c.share.new.out (to_each reply (connections c.args.receivers.now.keys))
    (to_each reply (connections c.loop-conn.conn-iterator)) c.in_err-share.ensures.unchanged (c.loop-conn.invariant reply is))
