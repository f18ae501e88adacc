use Rattle.std.proofs.Common.{refl, ap, ◌∙◌, subst}
use Rattle.nr_combiner.specs.Served.{CombinerState}
use Rattle.nr_combiner.proofs.Moves.{closed_served}
use Rattle.nr_combiner.proofs.Rooms.{HasClosed, closed_room}
use Rattle.nr_combiner.proofs.combiner.Combiner.close.Goals as goal

pub invariant_of-self : goal.invariant_of-self
invariant_of-self g c =
    let inside = c.self.inside in
    let there = closed_served inside.core c.close.new.self inside.seat inside.numbers.items c.args.conn c.close.ensures.closed c.close.ensures.other c.self.invariant.0 in
    (there.0, c.self.invariant.1, c.self.invariant.2 ∙ there.1, c.self.invariant.3 ∙ ap g.B.ServerName.slots there.1)

pub returns : goal.returns
returns g c =
    let inside = c.self.inside in
    let old : CombinerState = record { node = inside.core; seat = inside.seat; counts = inside.counts } in
    let new : CombinerState = record { node = c.close.new.self; seat = inside.seat; counts = c.close-2.new.self } in
    let both = closed_room old c.close.new.self c.close-2.new.self c.args.conn c.open_worker-worker.result c.open_worker-worker.ensures.some c.open_worker-worker.ensures.none
    c.close-2.ensures c.close.ensures.closed c.close.ensures.other in
    let there = subst (λ (x : CombinerState). HasClosed c.args.conn x new) c.self.view_is both in
    record { told = refl; closed = there.closed; other = there.other }
