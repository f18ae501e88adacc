use Rattle.std.proofs.Common.{rules}
use Rattle.std.proofs.lemmas.Fn.{filter_same}
use Rattle.nr_entry.specs.Runs.{has_jobs}
use Rattle.nr_entry.proofs.runs.drop_empty.Goals as goal

pub returns : goal.returns
returns c = filter_same _ has_jobs _ (λ x b f' k. search rules) _ _ c.retain.ensures.filtered
