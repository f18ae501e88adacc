use Rattle.std.proofs.Common.{◌≡◌, ◌++◌, map}
use Rattle.nr_model.specs.Replies.{Bulk}
use Rattle.nr_model.specs.Strings.{range}
use Rattle.nr_resp.specs.Shown.{item_reply}
use Rattle.nr_list_commands.proofs.looks.lent_range.Given as goal

-- what was lent and what is left are all
abbrev pub invariant-loop-item : goal.invariant-loop-item
invariant-loop-item l = map item_reply l.items.items ++ map Bulk l.item-iterator ≡ map Bulk (range l.first l.last l.list)
