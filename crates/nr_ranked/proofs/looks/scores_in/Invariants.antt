use Rattle.std.proofs.Common.{◌≡◌, map, take}
use Rattle.std.specs.Option.{option_map}
use Rattle.std.specs.FinMap as finmap
use Rattle.nr_model.specs.Commands.SortedSets as sorted_sets
use Rattle.nr_resp.specs.Shown.{item_reply}
use Rattle.nr_ranked.proofs.looks.scores_in.Given as goal

abbrev pub invariant-loop-member : goal.invariant-loop-member
invariant-loop-member l =
    map item_reply l.items.items
    ≡ map (λ member. sorted_sets.score_or_null (finmap.get (sorted_sets.or_none (option_map (λ zset. zset.now) l.zset)) member)) (take l.member-index l.members)
