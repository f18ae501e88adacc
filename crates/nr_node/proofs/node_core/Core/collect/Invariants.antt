use Rattle.std.proofs.Common.{◌-◌}
use Rattle.nr_node.proofs.Collected.{HasCollectedTo}
use Rattle.nr_node.proofs.node_core.Core.collect.Given as goal

-- what waited for the worker's connections before a serial was handed out
abbrev pub invariant-loop-from : goal.invariant-loop-from
invariant-loop-from g l = HasCollectedTo l.worker l.most l.from l.fn.taken.items l.taken.items l.fn.self l.self

abbrev pub decreases-loop-from : goal.decreases-loop-from
decreases-loop-from g l = l.count - l.from
