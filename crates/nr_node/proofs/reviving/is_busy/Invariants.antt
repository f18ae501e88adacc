use Rattle.std.proofs.Common.{◌≡◌, drop}
use Rattle.std.specs.Prelude.{is_some}
use Rattle.std.specs.List.{list_any}
use Rattle.nr_node.proofs.reviving.is_busy.Given as goal

-- none of the workers so far waits
abbrev pub invariant-loop-worker : goal.invariant-loop-worker
invariant-loop-worker l = list_any is_some (drop l.worker l.replica.owed) ≡ list_any is_some l.replica.owed
