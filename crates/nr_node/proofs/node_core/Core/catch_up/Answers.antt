use Rattle.std.proofs.Common.{subst}
use Rattle.std.proofs.lemmas.Bool.{not-false, not-true}
use Rattle.nr_node.specs.Level.{NodeState}
use Rattle.nr_node.specs.Advanced.{HasStopped}
use Rattle.nr_node.proofs.Taking.{goes_within}
use Rattle.nr_node.proofs.Caught.{caught_by}
use Rattle.nr_node.proofs.Shares.{went_last}
use Rattle.nr_node.proofs.node_core.Core.catch_up.Goals as goal

pub invariant_of-self : goal.invariant_of-self
invariant_of-self g c =
    let inside = c.self.inside in
    let went = c.catch_up-reached.ensures.goes in
    let w = goes_within went.0 inside.end.standing c.catch_up-reached.new.end.standing inside.replica c.catch_up-reached.new.replica inside.accounts c.catch_up-reached.new.accounts inside.next
    c.catch_up-reached.new.next inside.nodes went.1 c.catch_up-reached.ensures.idle (c.self.invariant.0, c.self.invariant.1, c.self.invariant.2, c.self.invariant.3, c.self.invariant.4) in
    (w.0, w.1, w.2, w.3, w.4, went_last went.0 inside.kept c.catch_up-reached.new.kept inside.end c.catch_up-reached.new.end went.1.passed c.catch_up-reached.ensures.freed c.catch_up-reached.ensures.last c.catch_up-reached.ensures.looks c.self.invariant.5)

pub returns-clause-goes : goal.returns-clause-goes
returns-clause-goes g c =
    let inside = c.self.inside in
    let went = c.catch_up-reached.ensures.goes in
    let tail = c.catch_up-reached.new.end.standing.seen in
    let by = caught_by went.0 inside.end c.catch_up-reached.new.end inside.replica c.catch_up-reached.new.replica inside.accounts c.catch_up-reached.new.accounts inside.next c.catch_up-reached.new.next
    c.args.self.now c.self.view_is went.1 c.catch_up-reached.ensures.looks c.catch_up-reached.ensures.few c.self.invariant.0.order in
    let reached = c.catch_up-reached.result in
    (went.0, (tail, by, λ e. (c.catch_up-reached.ensures.reached (not-false reached e)).0, λ e. c.catch_up-reached.ensures.behind (not-true reached e)))

pub returns-clause-stopped : goal.returns-clause-stopped
returns-clause-stopped g c = λ e.
    subst (λ (n : NodeState). HasStopped n.seat.looks c.catch_up-reached.new.end c.catch_up-reached.new.replica) c.self.view_is
    (c.catch_up-reached.ensures.stopped (not-true c.catch_up-reached.result e))
