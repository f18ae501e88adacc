-- One more was given back, and at last all were.
use Rattle.std.proofs.Common.{arith}
use Rattle.nr_server.proofs.Finished.{parts_no_more, parts_one_more}
use Rattle.nr_server.proofs.parting.finish_each.Goals as goal

pub loop-client-preserved : goal.loop-client-preserved
loop-client-preserved g c = λ last more.
    c.loop-client.invariant last
    (parts_one_more c.in-Some.client c.loop-client.client-iterator.rest.items c.next.new.self.rest.items _ _ last c.in-Some.ensures.steps.0 c.finish.ensures.parted more)

pub returns-clause-parted : goal.returns-clause-parted
returns-clause-parted g c =
    c.loop-client.invariant _
    (parts_no_more c.loop-client.client-iterator.rest.items _ (omega (arith, c.loop-client.client-iterator.rest.ok.0, c.in-None.ensures.steps.0)))
