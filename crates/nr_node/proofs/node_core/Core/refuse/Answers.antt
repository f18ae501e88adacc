use Rattle.std.proofs.Common.{ap, ◌∙◌}
use Rattle.nr_node.specs.Level.{NodeState}
use Rattle.nr_node.specs.Next.{jobs_next}
use Rattle.nr_node.specs.Steps.{refusing_node}
use Rattle.nr_node.proofs.Taking.{refusing_kept, refusing_is}
use Rattle.nr_node.proofs.node_core.Core.refuse.Goals as goal

pub invariant_of-self : goal.invariant_of-self
invariant_of-self g c =
    let keeps = c.self.invariant in
    let inside = c.self.inside in (
      refusing_kept inside.end.standing inside.replica c.refuse_next.new.replica inside.accounts inside.next inside.nodes c.refuse_next.ensures keeps.0,
      keeps.1,
      keeps.2,
      keeps.3,
      keeps.4,
      keeps.5,
    )

pub returns : goal.returns
returns g c =
    let inside = c.self.inside in
    let n : NodeState = record { seat = inside.end; replica = inside.replica; book = inside.accounts; next = jobs_next inside.next } in
    refusing_is n c.refuse_next.new.replica c.refuse_next.ensures ∙ ap refusing_node c.self.view_is
