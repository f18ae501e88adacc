use Rattle.std.proofs.Common.{◌≡◌, ℕ, length, slice_get, Some}
use Rattle.nr_sockets.proofs.inboxes.open_lanes.Given as goal

-- so many were opened, each lane and each handle under its number
abbrev pub invariant-loop-number : goal.invariant-loop-number
invariant-loop-number g l = record {
  lanes : length l.lanes.items ≡ l.number;
  count : length l.lookouts.items ≡ l.number;
  places : (number : ℕ) (lane : _) → slice_get l.lanes.items number ≡ Some lane → lane.number ≡ number;
  numbers : (lane : ℕ) (lookout : _) → slice_get l.lookouts.items lane ≡ Some lookout → lookout.lane ≡ lane;
}
