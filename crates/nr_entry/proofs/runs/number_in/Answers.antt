use Rattle.std.proofs.Common.{sym, ◌∙◌}
use Rattle.nr_entry.specs.Jobs.{connection_of}
use Rattle.nr_entry.proofs.FirstNumber.{no_number}
use Rattle.nr_entry.proofs.runs.number_in.Goals as goal

pub returns-else-eq : goal.returns-else-eq
returns-else-eq c =
    no_number (connection_of c.args.conn) (connection_of c.args.run.now.conn) c.args.run.now.jobs.items (sym c.eq.ensures ∙ c.if-eq.false) c.args.run.now.own
