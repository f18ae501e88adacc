use Rattle.std.proofs.Common.{map}
use Rattle.nr_resp.specs.Seen.{reply_of}
use Rattle.nr_list_commands.proofs.Popped.{Pops}
use Rattle.nr_list_commands.proofs.popping.take_items.Given as goal

abbrev pub invariant-loop : goal.invariant-loop
invariant-loop l = Pops l.counter l.end l.fn.list l.list (map reply_of l.items.items)
