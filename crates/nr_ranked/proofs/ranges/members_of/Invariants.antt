use Rattle.std.proofs.Common.{◌≡◌, map, take}
use Rattle.nr_model.specs.Replies.{Bulk}
use Rattle.nr_resp.specs.Shown.{item_reply}
use Rattle.nr_zsets.specs.Lists.{shown}
use Rattle.nr_ranked.proofs.ranges.members_of.Given as goal

abbrev pub invariant-loop-member : goal.invariant-loop-member
invariant-loop-member l = map item_reply l.items.items ≡ map (λ scored. Bulk scored.0) (map shown (take l.member-index l.told))
