use Rattle.nr_model.specs.Keyspace.{key_of}
use Rattle.nr_key_commands.proofs.Looking.{found_later}
use Rattle.nr_key_commands.proofs.keys.looks.deadline_at.Goals as goal

pub returns-clause-later : goal.returns-clause-later
returns-clause-later c = found_later c.args.keyspace.now c.args.now (key_of c.args.database c.args.name.now) c.deadline.result c.deadline.ensures
