use Rattle.std.proofs.Common.{rules, ◌≡◌, None, get_or, refl}
use Rattle.nr_world.proofs.Changed.{answered_is}
use Rattle.nr_world.proofs.Batches.{whole_owing}
use Rattle.std.proofs.lemmas.List.{length-set}
use Rattle.nr_world.proofs.node.WorldNode.answer.Goals as goal

pub returns-clause-answered : goal.returns-clause-answered
returns-clause-answered c =
    let at : c.index_mut.result.now ≡ get_or c.args.self.now.workers.items c.args.worker c.index_mut.result.now = search rules in
    let owed = get_or c.args.self.now.replica.owed c.args.worker None in
    let executed : c.is_down.result ≡ c.args.self.now.replica.down = c.is_down.ensures in
    answered_is c.args.self.now c.args.worker c.answer.new.self c.index_mut.result.now c.is_down.result c.answered.new.self c.requires.is_there
    c.requires.owed at executed
    (c.answer.ensures owed None) c.answered.ensures

pub returns-clause-whole : goal.returns-clause-whole
returns-clause-whole c = λ n whole.
    whole_owing n c.args.worker None c.args.self.now.replica.waiting c.args.self.now _ c.answered.ensures refl
    (length-set c.args.self.now.workers.items c.args.worker c.answer.new.self) refl whole
