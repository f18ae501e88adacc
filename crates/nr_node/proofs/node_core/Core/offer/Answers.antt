use Rattle.std.proofs.Common.{◌≡◌, None, true, ap, sym, ◌∙◌, subst, get_or}
use Rattle.nr_log_end.specs.declared.standing.Standing.{Standing}
use Rattle.nr_log_end.specs.Standings.{passed_of}
use Rattle.nr_node.specs.Kept.{IsKept}
use Rattle.nr_node.specs.Next.{jobs_next}
use Rattle.nr_node.proofs.Revived.{offered_now}
use Rattle.nr_node.proofs.Shares.{stood_last}
use Rattle.nr_node.proofs.node_core.Core.offer.Goals as goal

pub invariant_of-result : goal.invariant_of-result
invariant_of-result g c =
    let inside = c.self.inside in
    let keeps = c.self.invariant in
    let not_down : inside.replica.down ≡ true → ⊥ = λ down. absurd (cc (c.in-Ok.ensures.down.1 down)) in (
      c.passed-place.ensures ∙ ap passed_of (sym c.token.ensures.kept),
      offered_now inside.end.standing c.token.result.standing inside.replica inside.accounts (jobs_next inside.next) c.in-Ok.server c.token.ensures.kept keeps.1 not_down
          c.in-Ok.ensures.copied keeps.0.level keeps.0.order,
    )

pub invariant_of-self : goal.invariant_of-self
invariant_of-self g c =
    let keeps = c.self.invariant in
    let inside = c.self.inside in
    let still = c.token.ensures.same in (
      subst (λ (s : Standing). IsKept s inside.replica inside.accounts inside.next inside.nodes) (sym still) keeps.0,
      ap (λ (s : Standing). s.held) still ∙ keeps.1,
      λ node. ap (λ (s : Standing). get_or s.unfilled node None) still ∙ keeps.2 node,
      keeps.3 ∙ sym (ap (λ (s : Standing). s.nodes) still),
      keeps.4,
      stood_last inside.kept inside.end c.token.new.self still c.token.ensures.looks keeps.5,
    )

pub returns-clause-offered : goal.returns-clause-offered
returns-clause-offered g c =
    let inside = c.self.inside in
    let keeps = c.self.invariant in
    let not_down : inside.replica.down ≡ true → ⊥ = λ down. absurd (cc (c.in-Ok.ensures.down.1 down)) in
    offered_now inside.end.standing c.token.result.standing inside.replica inside.accounts (jobs_next inside.next) c.in-Ok.server c.token.ensures.kept keeps.1 not_down
    c.in-Ok.ensures.copied keeps.0.level keeps.0.order
