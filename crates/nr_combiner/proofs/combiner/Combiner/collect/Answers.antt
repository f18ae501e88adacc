use Rattle.std.proofs.Common.{ap, ◌∙◌}
use Rattle.nr_combiner.proofs.Moves.{all_handed_on}
use Rattle.nr_combiner.proofs.combiner.Combiner.collect.Goals as goal

pub invariant_of-self : goal.invariant_of-self
invariant_of-self g c =
    let inside = c.self.inside in
    let there = all_handed_on c.args.most c.collect.ensures.serials c.collect.ensures.pieces inside.core c.collect.new.self inside.seat inside.numbers.items
    c.collect.ensures.handed c.self.invariant.0 in
    (there.0, c.self.invariant.1, c.self.invariant.2 ∙ there.1, c.self.invariant.3 ∙ ap g.B.ServerName.slots there.1)
