use Rattle.std.proofs.Common.{◌≡◌, ◌+◌, ◌≤◌, drop, map}
use Rattle.std.specs.Prelude.{fold}
use Rattle.nr_model.specs.Commands.SortedSets as sorted_sets
use Rattle.nr_zsets.specs.Lists.{shown}
use Rattle.nr_ranked.specs.Adding.{scoring_as}
use Rattle.nr_ranked.proofs.scoring.adding.add_all.Given as goal

-- what was scored, with what is left to score, is all; and no more were counted than were looked at
abbrev pub invariant-loop-member : goal.invariant-loop-member
invariant-loop-member l =
    (fold (sorted_sets.add_one l.conditions) (scoring_as l.zset l.counts) (map shown (drop l.member-index l.pairs)) ≡ sorted_sets.add_all l.conditions l.fn.zset (map shown l.pairs))
    × (l.counts.added + l.counts.changed ≤ l.member-index)
