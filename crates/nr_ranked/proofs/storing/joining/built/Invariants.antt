use Rattle.std.proofs.Common.{◌≡◌, map}
use Rattle.std.specs.Prelude.{fold}
use Rattle.std.specs.FinMap as finmap
use Rattle.std.specs.List.{list_all}
use Rattle.nr_zsets.specs.Lists.{shown}
use Rattle.nr_ranked.specs.Storing.{scores_in}
use Rattle.nr_ranked.specs.Sums.{kept_by, built_one, is_right}
use Rattle.nr_ranked.proofs.storing.joining.built.Given as goal

-- what is built and judged, with what is left, is all
abbrev pub invariant-loop-member : goal.invariant-loop-member
invariant-loop-member l =
    let keeps = kept_by l.joining (map scores_in l.fn.held) in
    record {
      built : fold (built_one keeps) l.zset (map shown l.member-iterator) ≡ fold (built_one keeps) finmap.empty (map shown l.fn.sums.entries);
      right : list_all (is_right keeps) (map shown l.member-iterator) ≡ list_all (is_right keeps) (map shown l.fn.sums.entries);
    }
