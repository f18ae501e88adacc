use Rattle.std.proofs.Common.{sym, ◌∙◌}
use Rattle.nr_glob.specs.Walks.{is_match}
use Rattle.nr_glob.proofs.Rests.{some_here}
use Rattle.nr_glob.proofs.matches_some_rest.Goals as goal

pub returns-in-Matches : goal.returns-in-Matches
returns-in-Matches c = sym (c.loop-behind.invariant ∙ some_here (is_match c.loop-behind.segment.now) c.loop-behind.rest.now c.in-Matches.ensures.walk)
