use Rattle.std.proofs.Common.{◌≡◌, true, cond, [], ap, ◌∙◌}
use Rattle.nr_model.specs.Patterns.{matches}
use Rattle.nr_model.specs.Sequential.{for_node}
use Rattle.nr_model.specs.Sequential.Messages.{pattern_message}
use Rattle.nr_pubsub.specs.Standings.{connections}
use Rattle.nr_emission.specs.Emitted.{all_after}
use Rattle.nr_emission.specs.Parts.{to_each, matching_messages}
use Rattle.nr_emission.proofs.Sent.{all_front, on_err}
use Rattle.nr_emission.proofs.publishing.deliver_to_pattern.Goals as goal

pub returns-in_err-count-clause-partly : goal.returns-in_err-count-clause-partly
returns-in_err-count-clause-partly g c =
    let messages = to_each (pattern_message c.args.channel.now c.args.text.now c.args.pattern.now) (connections c.args.receivers.now.keys) in
    let matched : true ≡ matches c.args.pattern.now c.args.channel.now = c.if-not-matches.ensures ∙ (λ i. matches (c.bytes.ensures i) (c.bytes-2.ensures i)) in
    on_err c.from_residual-in_err-count.result _
    (all_front g.S.Sink.after c.args.out.now c.send.new.out
    (for_node c.args.node (matching_messages c.args.channel.now c.args.text.now (c.args.pattern.now, connections c.args.receivers.now.keys)))
    (c.in_ok-send.ensures.emitted ∙ ap (λ b. all_after g.S.Sink.after c.args.out.now (for_node c.args.node (cond b messages []))) matched))
