use Rattle.std.proofs.Common.{◌≡◌, ◌+◌, length}
use Rattle.std.specs.Prelude.{flat_map}
use Rattle.nr_pubsub.specs.Standings.{standing_entries}
use Rattle.nr_emission.specs.Messages.{subscriptions_of}
use Rattle.nr_emission.specs.Parts.{pattern_messages, matching_messages}
use Rattle.nr_emission.proofs.Sent.{Sent}
use Rattle.nr_emission.proofs.publishing.deliver_to_patterns.Given as goal

abbrev pub invariant-loop-pattern : goal.invariant-loop-pattern
invariant-loop-pattern g l = record {
  count : l.count + length (flat_map (matching_messages l.channel l.text) (standing_entries l.pattern-iterator))
      ≡ length (pattern_messages (subscriptions_of l.subs) l.channel l.text);
  sent : Sent g.S.Sink.after l.node l.fn.out l.out (pattern_messages (subscriptions_of l.subs) l.channel l.text)
      (flat_map (matching_messages l.channel l.text) (standing_entries l.pattern-iterator));
}
