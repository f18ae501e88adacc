use Rattle.std.proofs.Common.{ap, ◌∙◌}
use Rattle.nr_combiner.proofs.Moves.{lent_served}
use Rattle.nr_combiner.proofs.combiner.Combiner.lend.Goals as goal

pub invariant_of-self : goal.invariant_of-self
invariant_of-self g c =
    let inside = c.self.inside in
    let there = lent_served inside.core c.lend.new.self inside.seat inside.numbers.items c.lend.ensures.same c.self.invariant.0 in
    (there.0, c.self.invariant.1, c.self.invariant.2 ∙ there.1, c.self.invariant.3 ∙ ap g.B.ServerName.slots there.1)
