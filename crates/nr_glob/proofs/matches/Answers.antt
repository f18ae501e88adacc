use Rattle.std.proofs.Common.{sym, ◌∙◌}
use Rattle.nr_model.specs.Patterns.{parts}
use Rattle.nr_glob.proofs.matches.Goals as goal

pub returns-in-Fails : goal.returns-in-Fails
unfolding parts
returns-in-Fails c = sym c.in-Fails.ensures.walk

pub returns-in-Matches : goal.returns-in-Matches
unfolding parts
returns-in-Matches c = sym c.in-Matches.ensures.walk

pub returns-in-ToStar : goal.returns-in-ToStar
unfolding parts
returns-in-ToStar c = c.matches_some_rest.ensures ∙ sym c.in-ToStar.ensures.walk.here
