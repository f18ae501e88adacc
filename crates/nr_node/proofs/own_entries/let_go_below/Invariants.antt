use Rattle.std.specs.VecDeque.{deque_len}
use Rattle.nr_node.proofs.Shares.{HasTakenOut}
use Rattle.nr_node.proofs.own_entries.let_go_below.Given as goal

abbrev pub invariant-loop : goal.invariant-loop
invariant-loop l = HasTakenOut l.least l.initial.kept.items l.kept.items

abbrev pub decreases-loop : goal.decreases-loop
decreases-loop l = deque_len l.kept
