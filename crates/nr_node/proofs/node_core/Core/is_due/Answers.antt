use Rattle.std.proofs.Common.{ap, sym, ◌∙◌}
use Rattle.nr_node.specs.Level.{NodeState}
use Rattle.nr_node.proofs.Due.{next_due, leads_due}
use Rattle.nr_node.proofs.node_core.Core.is_due.Goals as goal

pub returns-then-is_some : goal.returns-then-is_some
returns-then-is_some g c =
    next_due c.args.self.now c.self.inside.next c.self.inside.end.standing.node c.self.inside.nodes (ap (λ (n : NodeState). n.next) c.self.view_is) c.self.invariant.0.next_is c.self.invariant.4
    (sym c.is_some.ensures ∙ c.if-is_some.true)

pub returns : goal.returns
returns g c =
    leads_due c.args.self.now c.self.inside.next c.leads_update.result c.self.inside.replica.waiting (ap (λ (n : NodeState). n.next) c.self.view_is)
    (sym c.is_some.ensures ∙ c.if-is_some.false) (ap (λ (n : NodeState). n.replica.waiting) c.self.view_is) c.leads_update.ensures
