use Rattle.std.proofs.Common.{◌≡◌, ◌+◌, length}
use Rattle.nr_glob.specs.Walks.{is_match_later}
use Rattle.nr_glob.proofs.matches_some_rest.Given as goal

abbrev pub invariant-loop-behind : goal.invariant-loop-behind
invariant-loop-behind l = is_match_later l.pattern l.text ≡ is_match_later l.segment l.rest

abbrev pub decreases-loop-behind : goal.decreases-loop-behind
decreases-loop-behind l = length l.segment + length l.rest
