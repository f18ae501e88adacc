use Rattle.std.proofs.Common.{◌≡◌, drop}
use Rattle.nr_model.specs.Commands.Lists.{pushed_all}
use Rattle.nr_list_commands.proofs.pushing.push_each.Given as goal

abbrev pub invariant-loop-item : goal.invariant-loop-item
invariant-loop-item l = pushed_all l.end (drop l.item-index l.items) l.list ≡ pushed_all l.end l.items l.fn.list
