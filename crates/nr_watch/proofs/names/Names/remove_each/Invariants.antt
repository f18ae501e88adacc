use Rattle.std.proofs.Common.{take}
use Rattle.nr_watch.specs.Kept.{names_one, IsTakenOut}
use Rattle.nr_watch.proofs.names.Names.remove_each.Given as goal

abbrev pub invariant-loop-watch : goal.invariant-loop-watch
invariant-loop-watch l = IsTakenOut (λ name. names_one name (take l.watch-index l.watches)) l.conn l.fn.self.conns.entries l.self.conns.entries
