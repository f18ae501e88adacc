use Rattle.std.proofs.Common.{◌≡◌, ◌++◌, map}
use Rattle.nr_model.specs.Replies.{Bulk}
use Rattle.nr_model.specs.Sets.{listed}
use Rattle.nr_resp.specs.Shown.{item_reply}
use Rattle.nr_members.proofs.sets.looks.items_of.Given as goal

-- what is shown and what is left are all
abbrev pub invariant-loop-member : goal.invariant-loop-member
invariant-loop-member l = map item_reply l.items.items ++ map Bulk l.member-iterator ≡ map Bulk (listed l.fn.held)
