use Rattle.nr_keyspace.specs.Values.{value_of}
use Rattle.nr_keyspace.proofs.Changes.{rewritten_indexed}
use Rattle.nr_keyspace.proofs.database.Database.rewrite.Goals as goal

pub invariant_of-self : goal.invariant_of-self
invariant_of-self c =
    rewritten_indexed c.rewrite.result c.self.inside.by_name.entries c.rewrite.new.by_name.entries c.self.inside.deadlines c.args.name.now
    (value_of c.args.value) c.self.invariant c.rewrite.ensures.written c.rewrite.ensures.undated c.rewrite.ensures.unchanged
