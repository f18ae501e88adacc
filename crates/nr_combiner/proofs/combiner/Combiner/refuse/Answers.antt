use Rattle.std.proofs.Common.{ap, ◌∙◌}
use Rattle.nr_node.specs.Level.{NodeState}
use Rattle.nr_node.specs.Steps.{refusing_node}
use Rattle.nr_combiner.specs.Served.{CombinerState}
use Rattle.nr_combiner.proofs.Moves.{refusing_served}
use Rattle.nr_combiner.proofs.combiner.Combiner.refuse.Goals as goal

pub invariant_of-self : goal.invariant_of-self
invariant_of-self g c =
    let inside = c.self.inside in
    let there = refusing_served inside.core c.refuse.new.self inside.seat inside.numbers.items c.refuse.ensures c.self.invariant.0 in
    (there.0, c.self.invariant.1, c.self.invariant.2 ∙ there.1, c.self.invariant.3 ∙ ap g.B.ServerName.slots there.1)

pub returns : goal.returns
returns g c =
    let inside = c.self.inside in
    let with_node : NodeState → CombinerState = λ n. record { node = n; seat = inside.seat; counts = inside.counts } in
    ap with_node c.refuse.ensures
    ∙ ap (λ (x : CombinerState). record x { node = refusing_node x.node }) c.self.view_is
