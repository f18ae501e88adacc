use Rattle.nr_node.proofs.Caught.{stood_by, tail_told}
use Rattle.nr_node.proofs.Shares.{looked_last}
use Rattle.nr_node.proofs.Taking.{stood_within}
use Rattle.nr_node.proofs.node_core.Core.stand_by.Goals as goal

pub invariant_of-self : goal.invariant_of-self
invariant_of-self g c =
    let keeps = c.self.invariant in
    let inside = c.self.inside in
    let last = c.tail-tail.new.self in
    let w = stood_within inside.end.standing last.standing inside.replica inside.accounts inside.next inside.nodes c.tail-tail.ensures.standing
    (keeps.0, keeps.1, keeps.2, keeps.3, keeps.4) in
    (w.0, w.1, w.2, w.3, w.4, looked_last inside.kept inside.end last c.tail-tail.result c.tail-tail.ensures.standing c.tail-tail.ensures.looks keeps.5)

pub returns-clause-goes : goal.returns-clause-goes
returns-clause-goes g c =
    let inside = c.self.inside in
    let last = c.tail-tail.new.self in
    let told = tail_told c.passed.result c.tail-tail.result last.standing c.passed.ensures c.tail-tail.ensures.tail in (
      last.standing.seen,
      stood_by inside.end last inside.replica inside.accounts inside.next c.tail-tail.result c.args.self.now c.self.view_is c.tail-tail.ensures.standing
          c.tail-tail.ensures.tail c.tail-tail.ensures.looks c.self.invariant.0.order,
      told.0,
      told.1,
    )
