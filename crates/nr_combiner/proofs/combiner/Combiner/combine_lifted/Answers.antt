use Rattle.std.proofs.Common.{◌≡◌, ℕ, length, ap, sym, ◌∙◌, subst, arith}
use Rattle.std.specs.Prelude.{IfSome}
use Rattle.nr_entry.specs.Jobs.{items_of}
use Rattle.nr_job_numbers.specs.Book.{Book}
use Rattle.nr_node.specs.Lending.{AreReadyFor}
use Rattle.nr_combiner.specs.Served.{CombinerState}
use Rattle.nr_combiner.specs.Steps.{HasLiftedBy, HasAnsweredAll, outcome_of}
use Rattle.nr_combiner.proofs.Alone.{still_ready}
use Rattle.nr_combiner.proofs.Turns.{tried_served, tried_book, looked_served, down_looked}
use Rattle.nr_combiner.proofs.Rounds.{lifted_by_long, answered_all_down}
use Rattle.nr_combiner.proofs.combiner.Combiner.combine_lifted.Goals as goal

pub invariant_of-self : goal.invariant_of-self
invariant_of-self g c =
    let inside = c.self.inside in
    let keeps = c.self.invariant in
    let tried = c.try_to_reserve-tried.new.core in
    let looked = c.look-looked.new.core in
    let goes = c.look-looked.ensures in
    let node : looked.book.node ≡ inside.core.book.node = goes.1.1.1.by.closed.node
    ∙ ap (λ (b : Book). b.node) (tried_book g.B.LogName.places c.try_to_reserve-tried.result inside.core tried c.try_to_reserve-tried.ensures.comes) in (
      looked_served c.look-looked.result.round c.look-looked.result.is_behind goes.0 goes.1.0 goes.1.1.0 tried looked inside.seat inside.numbers.items goes.1.1.1
          (tried_served g.B.LogName.places c.try_to_reserve-tried.result inside.core tried inside.seat inside.numbers.items c.try_to_reserve-tried.ensures.comes keeps.0),
      keeps.1,
      keeps.2 ∙ sym node,
      keeps.3 ∙ ap g.B.ServerName.slots (sym node),
    )

pub look-looked-requires : goal.look-looked-requires
look-looked-requires g c =
    let inside = c.self.inside in
    record {
      ready = still_ready g.B.LogName.places c.try_to_reserve-tried.result inside.core c.try_to_reserve-tried.new.core c.args.prepared c.try_to_reserve-tried.ensures.comes
          (subst (λ (x : CombinerState). IfSome c.args.prepared (AreReadyFor (items_of x.node.replica.waiting))) (sym c.self.view_is) c.requires.ready);
    }

pub answer_all-answered-requires : goal.answer_all-answered-requires
answer_all-answered-requires g c =
    let inside = c.self.inside in
    let served = c.self.invariant.0 in
    let count : c.len-workers.result ≡ length inside.numbers.items = omega (arith, c.len-workers.ensures, inside.numbers.ok.0) in
    count ∙ served.numbered ∙ sym served.workers

pub returns-clause-combined : goal.returns-clause-combined
returns-clause-combined g c = λ which worker before has_lifted.
    let inside = c.self.inside in
    let served = c.self.invariant.0 in
    let count : c.len-workers.result ≡ length inside.numbers.items = omega (arith, c.len-workers.ensures, inside.numbers.ok.0) in
    let lifted : CombinerState = record { node = inside.core; seat = inside.seat; counts = inside.counts } in
    let has : HasLiftedBy which worker before lifted = subst (HasLiftedBy which worker before) (sym c.self.view_is) has_lifted in
    let workers : c.len-workers.result ≡ length before.seat.desks = count ∙ served.numbered ∙ sym served.workers ∙ lifted_by_long which worker before lifted has in
    let goes = c.look-looked.ensures in
    record {
      lifted = lifted;
      has_lifted = has;
      try_is = c.try_to_reserve-tried.result;
      tried = c.try_to_reserve-tried.new.core;
      has_tried = c.try_to_reserve-tried.ensures;
      look_is = c.look-looked.result.round;
      looked = c.look-looked.new.core;
      entries = goes.0;
      ran = goes.1.0;
      tail = goes.1.1.0;
      has_looked = goes.1.1.1;
      round_is = c.outcome.ensures;
      has_answered = subst (λ (k : ℕ). HasAnsweredAll k (record { node = c.look-looked.new.core; seat = lifted.seat; counts = lifted.counts }) c.answer_all-answered.new.combiner) workers
          c.answer_all-answered.ensures;
    }

pub returns-clause-down : goal.returns-clause-down
returns-clause-down g c =
    let looked : CombinerState = record { node = c.look-looked.new.core; seat = c.self.inside.seat; counts = c.self.inside.counts } in
    let down = c.look-looked.ensures.1.1.1.down in
    let same = answered_all_down c.len-workers.result looked c.answer_all-answered.new.combiner c.answer_all-answered.ensures in (
      λ e. same ∙ down.0 (down_looked c.try_to_reserve-tried.result c.look-looked.result.round (sym c.outcome.ensures ∙ e)),
      λ e. c.outcome.ensures ∙ ap (outcome_of c.try_to_reserve-tried.result) (down.1 (sym same ∙ e)),
    )
