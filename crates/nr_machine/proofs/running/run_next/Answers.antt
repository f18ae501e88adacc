use Rattle.std.proofs.Common.{List, drop, ap, ◌∙◌}
use Rattle.nr_model.specs.Sequential.{for_node}
use Rattle.nr_model.specs.Sequential.Events.{Emission}
use Rattle.nr_emission.specs.Emitted.{all_after}
use Rattle.nr_emission.specs.Messages.{subscriptions_of}
use Rattle.nr_emission.proofs.Sent.{all_front, on_err}
use Rattle.nr_machine.proofs.Transactions.{publish_acted}
use Rattle.nr_machine.proofs.running.run_next.Goals as goal

pub returns-in_ok-reply-in-Publish-clause-partly : goal.returns-in_ok-reply-in-Publish-clause-partly
returns-in_ok-reply-in-Publish-clause-partly g c =
    on_err c.push_some.result _
    (all_front g.S.Sink.after c.args.out.now c.publish.new.out _
    (c.in_ok-reply-in-Publish.ensures.emitted
    ∙ ap (λ (ms : List Emission). all_after g.S.Sink.after c.args.out.now (for_node c.args.node ms))
    (publish_acted (subscriptions_of c.args.subs.now) c.args.now c.args.cmd.now.command c.args.cmd.now.words.items c.arguments.result.now c.args.keyspace.now c.args.database.now c.in-Publish.is
    (c.arguments.ensures ∙ ap (drop 1) c.deref-in-Publish.ensures.value))))
