use Rattle.std.proofs.Common.{◌≡◌, map, take}
use Rattle.std.specs.Map.Iter.{deref}
use Rattle.nr_model.specs.Replies.{Bulk}
use Rattle.nr_resp.specs.Shown.{item_reply}
use Rattle.nr_members.proofs.sets.combining.bulks.Given as goal

-- those before are shown
abbrev pub invariant-loop-member : goal.invariant-loop-member
invariant-loop-member l = map item_reply l.items.items ≡ map Bulk (map deref (take l.member-index l.members))
