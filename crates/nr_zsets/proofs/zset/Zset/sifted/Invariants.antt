use Rattle.std.proofs.Common.{◌≡◌, ◌++◌, take, drop, map}
use Rattle.nr_model.specs.SortedSets.{ranked, told_in, between}
use Rattle.nr_zbounds.specs.Ranges.{seen_bounds}
use Rattle.nr_ordered.specs.Lists.{shown}
use Rattle.nr_zsets.specs.Lists.{at_most}
use Rattle.nr_zsets.proofs.zset.Zset.sifted.Given as goal

-- what was lent and what is left to lend are all
abbrev pub invariant-loop-place : goal.invariant-loop-place
invariant-loop-place l =
    map shown l.lent.items ++ take l.left (drop l.passed (between (seen_bounds l.bounds) (drop l.place (told_in l.direction (ranked l.self)))))
    ≡ at_most l.fn.count (drop l.fn.offset (told_in l.direction (between (seen_bounds l.bounds) (ranked l.self))))
