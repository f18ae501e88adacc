use Rattle.std.proofs.Common.{◌<◌, length, subst, sym}
use Rattle.nr_node.specs.Level.{NodeState}
use Rattle.nr_node.specs.Steps.{nobody}
use Rattle.nr_node.proofs.Taking.{closed_kept}
use Rattle.nr_node.proofs.node_core.Core.close.Goals as goal

pub invariant_of-self : goal.invariant_of-self
invariant_of-self g c =
    let keeps = c.self.invariant in
    let inside = c.self.inside in
    let opened = c.has.ensures.opened c.if-not-has.false in
    let there : c.args.conn.serial < length inside.replica.members = subst (λ (n : NodeState). c.args.conn.serial < length n.replica.members) (sym c.self.view_is) opened.1 in (
      closed_kept inside.end.standing inside.replica c.close.new.self inside.accounts inside.next inside.nodes c.args.conn.serial there (c.close.ensures nobody) keeps.0,
      keeps.1,
      keeps.2,
      keeps.3,
      keeps.4,
      keeps.5,
    )
