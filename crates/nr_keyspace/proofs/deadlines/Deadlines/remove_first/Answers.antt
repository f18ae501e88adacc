use Rattle.nr_keyspace.proofs.Ordered.{some_there, first_out}
use Rattle.nr_keyspace.proofs.deadlines.Deadlines.remove_first.Goals as goal

pub remove-requires : goal.remove-requires
remove-requires c = some_there c.self.inside.ordered.0 c.requires.0 c.args.self.now c.self.view_is c.requires.1

pub invariant_of-self : goal.invariant_of-self
invariant_of-self c = (first_out c.self.inside.ordered.0 c.remove.new.self.0 c.requires.0 c.args.self.now c.self.invariant c.self.view_is c.requires.1
    c.remove.ensures.items).ordered

pub returns : goal.returns
returns c = λ due first. (first_out c.self.inside.ordered.0 c.remove.new.self.0 due c.args.self.now c.self.invariant c.self.view_is first
    c.remove.ensures.items).seen
