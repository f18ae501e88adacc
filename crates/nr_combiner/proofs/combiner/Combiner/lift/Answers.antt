use Rattle.std.proofs.Common.{◌≡◌, ℕ, ◌<◌, inl, inr, None, length, refl, ap, sym, ◌∙◌, subst}
use Rattle.nr_slots.specs.Seats.{CombinerView}
use Rattle.nr_node.specs.Level.{NodeState}
use Rattle.nr_combiner.specs.Aside.{HasTakenIn}
use Rattle.nr_combiner.specs.Served.{CombinerState}
use Rattle.nr_combiner.specs.Steps.{refusal_at, HasLifted, IsRefusedFor}
use Rattle.nr_combiner.proofs.Due.{idle_at, lifted_served, back_kept, hands_back, none_kept, found_slots}
use Rattle.nr_combiner.proofs.combiner.Combiner.lift.Goals as goal

pub take_in-requires : goal.take_in-requires
take_in-requires g c =
    let inside = c.self.inside in
    let near : c.args.worker < length inside.seat.desks = subst (λ (x : CombinerState). c.args.worker < length x.seat.desks) (sym c.self.view_is) c.requires in
    record {
      idle = idle_at inside.core inside.seat c.lift.new.self inside.numbers.items c.args.worker c.in-Some.batch near c.in-Some.ensures.lifted
          c.in-Some.ensures.unanswered c.self.invariant.0;
    }

pub hand_back-requires-clause-last : goal.hand_back-requires-clause-last
hand_back-requires-clause-last g c = (c.in-Some.batch, c.in-Err.ensures.back, c.in-Some.ensures.unanswered)

pub invariant_of-self : goal.invariant_of-self
invariant_of-self g c =
    let inside = c.self.inside in (
      none_kept inside.core inside.seat c.lift.new.self inside.numbers.items c.args.worker c.in_default.ensures.lifted c.self.invariant.0,
      found_slots inside.seat c.lift.new.self c.args.worker c.in_default.ensures.lifted ∙ c.self.invariant.1,
      c.self.invariant.2,
      found_slots inside.seat c.lift.new.self c.args.worker c.in_default.ensures.lifted ∙ c.self.invariant.3,
    )

pub invariant_of-self-in_default-take_in : goal.invariant_of-self-in_default-take_in
invariant_of-self-in_default-take_in g c =
    let inside = c.self.inside in
    let near : c.args.worker < length inside.seat.desks = subst (λ (x : CombinerState). c.args.worker < length x.seat.desks) (sym c.self.view_is) c.requires in
    let idle = idle_at inside.core inside.seat c.lift.new.self inside.numbers.items c.args.worker c.in-Some.batch near c.in-Some.ensures.lifted
    c.in-Some.ensures.unanswered c.self.invariant.0 in
    let taken = c.in_default-take_in.ensures.taken in (
      lifted_served inside.core c.take_in.new.core inside.seat c.lift.new.self inside.numbers.items c.args.worker c.since-since.result c.in-Some.batch near idle
          c.in_default-take_in.ensures.due c.in_default-take_in.ensures.served taken c.in-Some.ensures.lifted c.self.invariant.0,
      ap (λ (v : CombinerView). v.slots) c.in-Some.ensures.lifted ∙ c.self.invariant.1,
      c.self.invariant.2 ∙ sym (ap (λ (n : NodeState). n.book.node) taken),
      ap (λ (v : CombinerView). v.slots) c.in-Some.ensures.lifted ∙ c.self.invariant.3 ∙ ap g.B.ServerName.slots (sym (ap (λ (n : NodeState). n.book.node) taken)),
    )

pub returns-in_default-take_in-clause-lifted : goal.returns-in_default-take_in-clause-lifted
returns-in_default-take_in-clause-lifted g c =
    let inside = c.self.inside in
    let new : CombinerState = record { node = c.take_in.new.core; seat = c.lift.new.self; counts = inside.counts } in
    let due = subst (λ (k : ℕ). refusal_at c.args.worker k inside.core c.in-Some.batch ≡ None) c.since-since.ensures c.in_default-take_in.ensures.due in
    subst (λ (x : CombinerState). HasLifted c.args.worker x new) c.self.view_is
    (inr (inl (c.in-Some.batch, record { due = due; node = c.in_default-take_in.ensures.taken; seat = c.in-Some.ensures.lifted; counts = refl })))

pub returns-in_default-take_in-clause-taken : goal.returns-in_default-take_in-clause-taken
returns-in_default-take_in-clause-taken g c =
    let inside = c.self.inside in
    let new : CombinerState = record { node = c.take_in.new.core; seat = c.lift.new.self; counts = inside.counts } in
    let due = subst (λ (k : ℕ). refusal_at c.args.worker k inside.core c.in-Some.batch ≡ None) c.since-since.ensures c.in_default-take_in.ensures.due in
    subst (λ (x : CombinerState). HasTakenIn c.args.worker c.in-Some.batch.number x new) c.self.view_is
    record {
      batch = c.in-Some.batch;
      took = record { due = due; node = c.in_default-take_in.ensures.taken; seat = c.in-Some.ensures.lifted; counts = refl };
      number_is = refl;
    }

pub invariant_of-self-2 : goal.invariant_of-self-2
invariant_of-self-2 g c =
    let inside = c.self.inside in
    let near : c.args.worker < length inside.seat.desks = subst (λ (x : CombinerState). c.args.worker < length x.seat.desks) (sym c.self.view_is) c.requires in
    let idle = idle_at inside.core inside.seat c.lift.new.self inside.numbers.items c.args.worker c.in-Some.batch near c.in-Some.ensures.lifted
    c.in-Some.ensures.unanswered c.self.invariant.0 in
    let told = c.hand_back.ensures in (
      back_kept inside.core c.take_in.new.core inside.seat c.lift.new.self c.hand_back.new.seat inside.numbers.items c.args.worker c.in-Some.batch c.in-Err.batch c.in-Err.why
          told.0 near idle c.in-Err.ensures.unchanged c.in-Some.ensures.lifted told.3 told.2 c.self.invariant.0,
      ap (λ (v : CombinerView). v.slots) told.3 ∙ ap (λ (v : CombinerView). v.slots) c.in-Some.ensures.lifted ∙ c.self.invariant.1,
      c.self.invariant.2 ∙ sym (ap (λ (n : NodeState). n.book.node) c.in-Err.ensures.unchanged),
      ap (λ (v : CombinerView). v.slots) told.3 ∙ ap (λ (v : CombinerView). v.slots) c.in-Some.ensures.lifted ∙ c.self.invariant.3
          ∙ ap g.B.ServerName.slots (sym (ap (λ (n : NodeState). n.book.node) c.in-Err.ensures.unchanged)),
    )

pub returns-clause-lifted : goal.returns-clause-lifted
returns-clause-lifted g c =
    let inside = c.self.inside in
    let told = c.hand_back.ensures in
    let old : CombinerState = record { node = inside.core; seat = inside.seat; counts = inside.counts } in
    let new : CombinerState = record { node = c.take_in.new.core; seat = c.hand_back.new.seat; counts = inside.counts } in
    let refused = subst (λ (k : ℕ). IsRefusedFor c.args.worker k inside.core c.in-Some.batch c.in-Err.why) c.since-since.ensures c.in-Err.ensures.refused in
    subst (λ (x : CombinerState). HasLifted c.args.worker x new) c.self.view_is
    (inr (inr (
      c.in-Some.batch,
      told.0,
      c.in-Err.why,
      hands_back old new c.lift.new.self c.args.worker c.in-Some.batch c.in-Err.batch c.in-Err.why told.0 refused c.in-Err.ensures.back
          c.in-Err.ensures.unchanged c.in-Some.ensures.lifted told.3 refl told.1 told.2,
    )))
