use Rattle.nr_server.proofs.ByLane.{moved}
use Rattle.nr_server.proofs.serve.places_of.Goals as goal

pub loop-lookout-preserved : goal.loop-lookout-preserved
loop-lookout-preserved g c = moved (λ place. place.device.lane.now.number) (λ lookout. lookout.lane) c.loop-lookout.places.items c.push.new.self.items c.loop-lookout.lookout-iterator.rest.items c.next.new.self.rest.items c.args.lookouts.items _ c.in-Some.lookout c.in-Some.ensures.steps.0 c.in-Ok-push.ensures.items c.in-Ok.ensures.lane c.loop-lookout.invariant
