use Rattle.nr_entry.specs.Jobs.{connection_of}
use Rattle.nr_node_tests.proofs.Serving.{got_first}
use Rattle.nr_node_tests.proofs.law.take_first.Goals as goal

pub returns-clause-got : goal.returns-clause-got
returns-clause-got g c =
    got_first c.args.worker.now (connection_of c.args.conn) _ _ _ _ c.new-pieces.result.items c.turn.new.taken.items c.pop.new.self.items
    c.turn.result c.in-Some.field-0-0 c.in-Some.token c.pop.result c.in-Some-pop.handed c.first_bytes.result.items
    c.in-Some.is c.new-pieces.ensures.items c.turn.ensures.heard c.turn.ensures.sound c.adopt.ensures.adopted c.adopt.ensures.met
    c.pop.ensures.items c.in-Some-pop.is c.first_bytes.ensures.named c.first_bytes.ensures.from c.first_bytes.ensures.bytes
