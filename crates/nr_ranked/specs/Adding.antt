-- What is counted while members get scores.
use Rattle.nr_model.specs.SortedSets.{Scores}
use Rattle.nr_model.specs.Commands.SortedSets.{Scoring}
use Rattle.nr_ranked.specs.declared.scoring.adding.AddedCounts.{AddedCounts}

-- scores, with what was counted on the way to them
abbrev pub scoring_as : Scores → AddedCounts → Scoring
scoring_as scores counts = record { scores = scores; added = counts.added; changed = counts.changed }
