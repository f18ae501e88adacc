use Rattle.nr_emission.specs.Messages.{subscriptions_of}
use Rattle.nr_emission.specs.Parts.{channel_messages, pattern_messages}
use Rattle.nr_emission.proofs.Sent.{first_front, second_front, both_front, on_err}
use Rattle.nr_emission.proofs.publishing.deliver.Goals as goal

pub returns-in_err-direct-clause-partly : goal.returns-in_err-direct-clause-partly
returns-in_err-direct-clause-partly g c =
    on_err c.from_residual.result _
    (first_front g.S.Sink.after c.args.node c.args.out.now c.deliver_to_channel.new.out
    (channel_messages (subscriptions_of c.args.subs.now) c.args.channel.now c.args.text.now)
    (pattern_messages (subscriptions_of c.args.subs.now) c.args.channel.now c.args.text.now) c.in_err-direct.ensures.partly)

pub returns-in_err-matched-clause-partly : goal.returns-in_err-matched-clause-partly
returns-in_err-matched-clause-partly g c =
    on_err c.from_residual-in_err-matched.result _
    (second_front g.S.Sink.after c.args.node c.args.out.now c.deliver_to_channel.new.out c.deliver_to_patterns.new.out
    (channel_messages (subscriptions_of c.args.subs.now) c.args.channel.now c.args.text.now)
    (pattern_messages (subscriptions_of c.args.subs.now) c.args.channel.now c.args.text.now) c.in_ok-direct.ensures.emitted c.in_err-matched.ensures.partly)

pub returns-in_err-receivers-clause-partly : goal.returns-in_err-receivers-clause-partly
returns-in_err-receivers-clause-partly g c =
    on_err c.from_residual-in_err-receivers.result _
    (both_front g.S.Sink.after c.args.node c.args.out.now c.deliver_to_channel.new.out c.deliver_to_patterns.new.out
    (channel_messages (subscriptions_of c.args.subs.now) c.args.channel.now c.args.text.now)
    (pattern_messages (subscriptions_of c.args.subs.now) c.args.channel.now c.args.text.now) c.in_ok-direct.ensures.emitted c.in_ok-matched.ensures.emitted)

pub returns-clause-partly : goal.returns-clause-partly
returns-clause-partly g c =
    on_err c.count_reply.result _
    (both_front g.S.Sink.after c.args.node c.args.out.now c.deliver_to_channel.new.out c.deliver_to_patterns.new.out
    (channel_messages (subscriptions_of c.args.subs.now) c.args.channel.now c.args.text.now)
    (pattern_messages (subscriptions_of c.args.subs.now) c.args.channel.now c.args.text.now) c.in_ok-direct.ensures.emitted c.in_ok-matched.ensures.emitted)
