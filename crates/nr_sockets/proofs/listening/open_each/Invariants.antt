use Rattle.std.proofs.Common.{◌≡◌, ◌+◌, length}
use Rattle.nr_sockets.proofs.Saying.{AreNamed}
use Rattle.nr_sockets.proofs.listening.open_each.Given as goal

-- so many are said, each as its address may be, and so many listen
abbrev pub invariant-loop-place : goal.invariant-loop-place
invariant-loop-place g l = record {
  count : length l.named.items ≡ l.place;
  each : AreNamed l.addresses l.named.items;
  opened : length l.ears.items ≡ length l.fn.ears.items + l.place;
}
