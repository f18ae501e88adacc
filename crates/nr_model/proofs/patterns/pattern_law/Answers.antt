-- The law of the parts, at the parts of a pattern.
use Rattle.nr_model.specs.Patterns.{parts}
use Rattle.nr_model.proofs.Matching.{PartsMatch-from_test, parts_match-from_relation}
use Rattle.nr_model.proofs.patterns.pattern_law.Goals as goal

pub returns : goal.returns
returns c = λ p x. (PartsMatch-from_test (parts p) x, parts_match-from_relation (parts p) x)
