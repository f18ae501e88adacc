use Rattle.std.proofs.Common.{arith}
use Rattle.nr_log_tests.proofs.Filled.{later_ready}
use Rattle.nr_log_tests.proofs.node.Node.offer.Goals as goal

pub invariant_of-self : goal.invariant_of-self
invariant_of-self g c = let far = c.if-number-self.false in (later_ready _ _ c.self.inside.next _ c.self.inside.end.standing (omega (arith, far)) c.self.invariant.0, c.in_ok-offered.ensures)
