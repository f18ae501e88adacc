use Rattle.std.proofs.Common.{◌≡◌}
use Rattle.std.specs.Arc.{arc_value}
use Rattle.nr_model.specs.Replies.{Reply, reply_text}
use Rattle.nr_pubsub.specs.Standings.{connections}
use Rattle.nr_emission.specs.Parts.{to_each}
use Rattle.nr_emission.proofs.Sent.{Sent}
use Rattle.nr_emission.proofs.publishing.share_all.Given as goal

abbrev pub invariant-loop-conn : goal.invariant-loop-conn
invariant-loop-conn g l =
    (reply : Reply) → reply_text reply ≡ (arc_value l.encoded).items
    → Sent g.S.Sink.after l.node l.fn.out l.out (to_each reply (connections l.receivers.keys)) (to_each reply (connections l.conn-iterator))
