use Rattle.nr_script.proofs.Spelled.{read_spelled, spelled_read, shown_spelled}
use Rattle.nr_script.proofs.laws.spellings.Goals as goal

pub returns-clause-only : goal.returns-clause-only
returns-clause-only c = read_spelled

pub returns-clause-found : goal.returns-clause-found
returns-clause-found c = spelled_read

pub returns-clause-shown : goal.returns-clause-shown
returns-clause-shown c = shown_spelled
