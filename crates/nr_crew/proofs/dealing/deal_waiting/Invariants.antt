use Rattle.nr_crew.specs.Dealing.{DealsFrom}
use Rattle.nr_crew.proofs.dealing.deal_waiting.Given as goal

abbrev pub invariant-loop : goal.invariant-loop
invariant-loop g l = DealsFrom l.setup.nodes l.setup.workers l.fn.number l.number (g.L.Accepts.dealt l.fn.main) (g.L.Accepts.dealt l.main)
