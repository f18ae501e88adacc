use Rattle.nr_model.proofs.Spellings.{each_is_found, each_is_spelled}
use Rattle.nr_model.proofs.requests.one_reading.Goals as goal

pub returns-clause-only : goal.returns-clause-only
returns-clause-only c = each_is_found

pub returns-clause-found : goal.returns-clause-found
returns-clause-found c = each_is_spelled
