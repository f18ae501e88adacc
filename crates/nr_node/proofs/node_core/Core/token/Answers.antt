use Rattle.std.proofs.Common.{None, ap, sym, ◌∙◌, subst, get_or}
use Rattle.nr_log_end.specs.declared.standing.Standing.{Standing}
use Rattle.nr_log_end.specs.Standings.{opened_of}
use Rattle.nr_node.specs.Kept.{IsKept}
use Rattle.nr_node.specs.Level.{NodeState, workers_of}
use Rattle.nr_node.specs.Next.{jobs_next}
use Rattle.nr_node.proofs.Orders.{is_sound}
use Rattle.nr_node.proofs.Shares.{stood_last}
use Rattle.nr_node.proofs.node_core.Core.token.Goals as goal

pub invariant_of-self : goal.invariant_of-self
invariant_of-self g c =
    let keeps = c.self.invariant in
    let inside = c.self.inside in
    let still = c.token.ensures.same in (
      subst (λ (s : Standing). IsKept s inside.replica inside.accounts inside.next inside.nodes) (sym still) keeps.0,
      ap (λ (s : Standing). s.held) still ∙ keeps.1,
      λ node. ap (λ (s : Standing). get_or s.unfilled node None) still ∙ keeps.2 node,
      keeps.3 ∙ sym (ap (λ (s : Standing). s.nodes) still),
      keeps.4,
      stood_last inside.kept inside.end c.token.new.self still c.token.ensures.looks keeps.5,
    )

pub returns-clause-sound : goal.returns-clause-sound
returns-clause-sound g c =
    let inside = c.self.inside in
    is_sound inside.end.standing c.token.result.standing inside.replica inside.accounts (jobs_next inside.next) c.token.ensures.kept c.self.invariant.1
    c.self.invariant.0.level.opened c.self.invariant.0.order

pub returns-clause-opened : goal.returns-clause-opened
returns-clause-opened g c =
    ap (λ (n : NodeState). workers_of n.replica.members) (sym c.self.view_is) ∙ c.self.invariant.0.level.opened ∙ ap (λ (s : Standing). opened_of s.history) (sym c.token.ensures.kept)
