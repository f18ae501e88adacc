-- Whatever the device is given back of those that are left, it is given back of all.
use Rattle.nr_server.specs.Parting.{PartsFrom}
use Rattle.nr_server.proofs.parting.finish_each.Given as goal

abbrev pub invariant-loop-client : goal.invariant-loop-client
invariant-loop-client g l =
    (last : _) → PartsFrom l.client-iterator.rest.items (g.D.Poller.parted l.device) last → PartsFrom l.fn.clients.items (g.D.Poller.parted l.fn.device) last
