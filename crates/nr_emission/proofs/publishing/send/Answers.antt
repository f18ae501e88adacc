use Rattle.std.proofs.Common.{sym, ap}
use Rattle.nr_emission.specs.Emitted.{all_after}
use Rattle.nr_emission.specs.Parts.{message_reply}
use Rattle.nr_emission.proofs.Delivered.{none_of_node}
use Rattle.nr_emission.proofs.publishing.send.Goals as goal

pub returns-then-not-has_receiver-clause-emitted : goal.returns-then-not-has_receiver-clause-emitted
returns-then-not-has_receiver-clause-emitted g c =
    ap (all_after g.S.Sink.after c.args.out.now)
    (sym (none_of_node c.args.node (message_reply c.args.message) c.args.receivers.now.keys (sym c.if-not-has_receiver.ensures)))
