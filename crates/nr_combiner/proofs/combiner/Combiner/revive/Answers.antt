use Rattle.std.proofs.Common.{ap, ◌∙◌}
use Rattle.nr_combiner.proofs.Revived.{refused_served, revived_served}
use Rattle.nr_combiner.proofs.combiner.Combiner.revive.Goals as goal

pub invariant_of-self : goal.invariant_of-self
invariant_of-self g c =
    let inside = c.self.inside in
    let there = refused_served c.args.offer c.in-Err.back.1 inside.core c.revive.new.self inside.seat inside.numbers.items c.in-Err.ensures.refused c.self.invariant.0 in
    (there.0, c.self.invariant.1, c.self.invariant.2 ∙ there.1, c.self.invariant.3 ∙ ap g.B.ServerName.slots there.1)

pub invariant_of-self-2 : goal.invariant_of-self-2
invariant_of-self-2 g c =
    let inside = c.self.inside in
    let there = revived_served c.args.offer inside.core c.revive.new.self inside.seat inside.numbers.items c.in_default.ensures.revived.1 c.self.invariant.0 in
    (there.0, c.self.invariant.1, c.self.invariant.2 ∙ there.1, c.self.invariant.3 ∙ ap g.B.ServerName.slots there.1)
