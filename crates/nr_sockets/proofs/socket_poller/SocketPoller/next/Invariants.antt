use Rattle.std.proofs.Common.{◌≡◌}
use Rattle.nr_sockets.proofs.socket_poller.SocketPoller.next.Given as goal

-- it was given nothing back
abbrev pub invariant-loop : goal.invariant-loop
invariant-loop g l = l.self.parted ≡ l.fn.self.parted
