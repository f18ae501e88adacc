use Rattle.std.proofs.Common.{◌≡◌, ◌+◌, length, sym, ap, ◌∙◌, subst, arith}
use Rattle.std.specs.Prelude.{flat_map}
use Rattle.std.specs.Map.Iter.{deref_pair}
use Rattle.std.proofs.lemmas.Map.Iter.{rest_more}
use Rattle.nr_model.specs.Servers.{subscribers_in, names_in}
use Rattle.nr_model.specs.declared.command.Kind.TheVariants.{Patterns}
use Rattle.nr_pubsub.specs.Standings.{connections, standing_entries}
use Rattle.nr_emission.specs.Messages.{subscriptions_of}
use Rattle.nr_emission.specs.Parts.{pattern_messages, matching_messages}
use Rattle.nr_emission.proofs.Delivered.{by_pattern, counted_more}
use Rattle.nr_emission.proofs.Sent.{Sent, none_sent, sent_more, front_more, on_err}
use Rattle.nr_emission.proofs.publishing.deliver_to_patterns.Goals as goal

pub loop-pattern-init : goal.loop-pattern-init
loop-pattern-init g c =
    let whole = pattern_messages (subscriptions_of c.args.subs.now) c.args.channel.now c.args.text.now in
    let given : c.into_iter-pattern-iterator.result ≡ c.by_name-pattern-items.result.now.entries = c.into_iter-pattern-iterator.ensures.into_iter_gives.0 in
    let all : flat_map (matching_messages c.args.channel.now c.args.text.now) (standing_entries c.into_iter-pattern-iterator.result) ≡ whole =
    by_pattern c.args.channel.now c.args.text.now (subscribers_in c.args.subs.now Patterns) (names_in c.args.subs.now Patterns)
    (standing_entries c.into_iter-pattern-iterator.result) (ap standing_entries given ∙ c.by_name-pattern-items.ensures) in
    record {
      count = let same : length (flat_map (matching_messages c.args.channel.now c.args.text.now) (standing_entries c.into_iter-pattern-iterator.result))
          ≡ length whole = ap length all in omega (arith, same);
      sent = subst (Sent g.S.Sink.after c.args.node c.args.out.now c.args.out.now whole) (sym all) (none_sent g.S.Sink.after c.args.node c.args.out.now whole);
    }

pub loop-pattern-preserved : goal.loop-pattern-preserved
loop-pattern-preserved g c =
    let whole = pattern_messages (subscriptions_of c.args.subs.now) c.args.channel.now c.args.text.now in
    let messages = matching_messages c.args.channel.now c.args.text.now in
    let one = messages (c.in-Some.pattern.now, connections c.in-Some.receivers.now.keys) in
    let rest = flat_map messages (standing_entries c.next.new.self) in
    let parts = rest_more deref_pair c.loop-pattern.pattern-iterator c.next.new.self c.next.result (c.in-Some.pattern, c.in-Some.receivers) c.in-Some.is
    c.next.ensures.steps in
    record {
      count = counted_more c.loop-pattern.count c.deliver_to_pattern.new.count one rest whole c.in_ok-deliver_to_pattern.ensures.count
          (subst (λ entries. c.loop-pattern.count + length (flat_map messages (standing_entries entries)) ≡ length whole) parts c.loop-pattern.invariant.count);
      sent = sent_more g.S.Sink.after c.args.node c.args.out.now c.loop-pattern.out c.deliver_to_pattern.new.out whole one rest
          c.in_ok-deliver_to_pattern.ensures.emitted
          (subst (λ entries. Sent g.S.Sink.after c.args.node c.args.out.now c.loop-pattern.out whole (flat_map messages (standing_entries entries))) parts
          c.loop-pattern.invariant.sent);
    }

pub returns-in_err-deliver_to_pattern-clause-partly : goal.returns-in_err-deliver_to_pattern-clause-partly
returns-in_err-deliver_to_pattern-clause-partly g c =
    let whole = pattern_messages (subscriptions_of c.args.subs.now) c.args.channel.now c.args.text.now in
    let messages = matching_messages c.args.channel.now c.args.text.now in
    let parts = rest_more deref_pair c.loop-pattern.pattern-iterator c.next.new.self c.next.result (c.in-Some.pattern, c.in-Some.receivers) c.in-Some.is
    c.next.ensures.steps in
    on_err c.from_residual.result _
    (front_more g.S.Sink.after c.args.node c.args.out.now c.loop-pattern.out c.deliver_to_pattern.new.out whole
    (messages (c.in-Some.pattern.now, connections c.in-Some.receivers.now.keys)) (flat_map messages (standing_entries c.next.new.self))
    c.in_err-deliver_to_pattern.ensures.partly
    (subst (λ entries. Sent g.S.Sink.after c.args.node c.args.out.now c.loop-pattern.out whole (flat_map messages (standing_entries entries))) parts
    c.loop-pattern.invariant.sent))
