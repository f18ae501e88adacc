use Rattle.nr_keyspace.proofs.Changes.{written_indexed}
use Rattle.nr_keyspace.proofs.database.Database.write_text.Goals as goal

pub invariant_of-self : goal.invariant_of-self
invariant_of-self c =
    written_indexed c.write_text.result c.self.inside.by_name.entries c.write_text.new.by_name.entries c.self.inside.deadlines c.args.name.now
    c.args.text.now c.self.invariant c.write_text.ensures.exact c.write_text.ensures.ok c.write_text.ensures.err
