use Rattle.std.proofs.Common.{◌≡◌, map, take}
use Rattle.std.specs.Prelude.{flat_map}
use Rattle.nr_model.specs.Commands.SortedSets.{with_score}
use Rattle.nr_resp.specs.Shown.{item_reply}
use Rattle.nr_zsets.specs.Lists.{shown}
use Rattle.nr_ranked.proofs.ranges.pairs_of.Given as goal

abbrev pub invariant-loop-member : goal.invariant-loop-member
invariant-loop-member l = map item_reply l.items.items ≡ flat_map with_score (map shown (take l.member-index l.told))
