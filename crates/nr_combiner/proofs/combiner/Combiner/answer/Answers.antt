use Rattle.std.proofs.Common.{◌≡◌, ◌<◌, inr, Some, length, refl, ap, sym, ◌∙◌, subst}
use Rattle.nr_entry.specs.declared.batch.Answer.{Answer}
use Rattle.nr_node.specs.Owing.{answer_of}
use Rattle.nr_combiner.specs.Served.{CombinerState}
use Rattle.nr_combiner.specs.Steps.{HasAnswered}
use Rattle.nr_combiner.proofs.Due.{near_of, number_at, is_held, answered_kept, same_slots, same_node}
use Rattle.nr_combiner.proofs.combiner.Combiner.answer.Goals as goal

pub answer-requires : goal.answer-requires
answer-requires g c =
    let inside = c.self.inside in
    let near : c.args.worker < length inside.seat.desks = subst (λ (x : CombinerState). c.args.worker < length x.seat.desks) (sym c.self.view_is) c.requires in
    near_of inside.core inside.seat inside.numbers.items c.args.worker near c.self.invariant.0

pub answer-requires-2-clause-lifted : goal.answer-requires-2-clause-lifted
answer-requires-2-clause-lifted g c =
    let inside = c.self.inside in
    let near : c.args.worker < length inside.seat.desks = subst (λ (x : CombinerState). c.args.worker < length x.seat.desks) (sym c.self.view_is) c.requires in
    let answer : Answer = record { node = inside.node; worker = c.args.worker; batch = c.index.result.now; outcome = c.in-Some.outcome } in
    let known : answer_of inside.core c.args.worker ≡ Some c.in-Some.outcome = sym c.answer.ensures.outcome ∙ c.in-Some.is in
    is_held inside.core inside.seat inside.numbers.items c.args.worker answer near known c.self.invariant.2 refl
    (number_at inside.core inside.seat inside.numbers.items c.args.worker c.index.result.now near c.index.ensures c.self.invariant.0) c.self.invariant.0

pub invariant_of-self-2 : goal.invariant_of-self-2
invariant_of-self-2 g c =
    let inside = c.self.inside in
    let near : c.args.worker < length inside.seat.desks = subst (λ (x : CombinerState). c.args.worker < length x.seat.desks) (sym c.self.view_is) c.requires in
    let answer : Answer = record { node = inside.node; worker = c.args.worker; batch = c.index.result.now; outcome = c.in-Some.outcome } in
    let known : answer_of inside.core c.args.worker ≡ Some c.in-Some.outcome = sym c.answer.ensures.outcome ∙ c.in-Some.is in
    let done = c.in-Some.ensures.answered in (
      answered_kept inside.core c.answer.new.self inside.seat c.answer-2.new.self inside.numbers.items c.args.worker answer near known done c.answer-2.ensures
          (λ e. c.answer.ensures.executed (c.in-Some.is ∙ ap Some e)) c.self.invariant.0,
      same_slots inside.seat c.answer-2.new.self c.args.worker answer c.answer-2.ensures ∙ c.self.invariant.1,
      c.self.invariant.2 ∙ same_node inside.core c.answer.new.self c.args.worker done,
      same_slots inside.seat c.answer-2.new.self c.args.worker answer c.answer-2.ensures ∙ c.self.invariant.3
          ∙ ap g.B.ServerName.slots (same_node inside.core c.answer.new.self c.args.worker done),
    )

pub returns : goal.returns
returns g c =
    let inside = c.self.inside in
    let near : c.args.worker < length inside.seat.desks = subst (λ (x : CombinerState). c.args.worker < length x.seat.desks) (sym c.self.view_is) c.requires in
    let answer : Answer = record { node = inside.node; worker = c.args.worker; batch = c.index.result.now; outcome = c.in-Some.outcome } in
    let known : answer_of inside.core c.args.worker ≡ Some c.in-Some.outcome = sym c.answer.ensures.outcome ∙ c.in-Some.is in
    let last = is_held inside.core inside.seat inside.numbers.items c.args.worker answer near known c.self.invariant.2 refl
    (number_at inside.core inside.seat inside.numbers.items c.args.worker c.index.result.now near c.index.ensures c.self.invariant.0) c.self.invariant.0 in
    let new : CombinerState = record { node = c.answer.new.self; seat = c.answer-2.new.self; counts = inside.counts } in
    record {
      answered = subst (λ (x : CombinerState). HasAnswered c.args.worker x new) c.self.view_is
          (inr (answer, record { last = last; outcome = known; node = c.in-Some.ensures.answered; seat = c.answer-2.ensures; counts = refl }));
    }
