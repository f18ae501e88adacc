use Rattle.std.proofs.Common.{◌≡◌, ◌++◌, map}
use Rattle.nr_server.proofs.serve.places_of.Given as goal

abbrev pub invariant-loop-lookout : goal.invariant-loop-lookout
invariant-loop-lookout g l = map (λ place. place.device.lane.now.number) l.places.items ++ map (λ lookout. lookout.lane) l.lookout-iterator.rest.items ≡ map (λ lookout. lookout.lane) l.fn.lookouts.items
