use Rattle.nr_script.proofs.Found.{read_said}
use Rattle.nr_script.proofs.Said.{said_read}
use Rattle.nr_script.proofs.laws.lines.Goals as goal

pub returns-clause-found : goal.returns-clause-found
returns-clause-found c = said_read

pub returns-clause-only : goal.returns-clause-only
returns-clause-only c = read_said
