use Rattle.std.proofs.Common.{rules, ◌≡◌, List, get_or, refl, ap}
use Rattle.nr_model.specs.Nodes as nodes
use Rattle.nr_model.specs.Nodes.Steps.{posted_worker}
use Rattle.nr_world.specs.Served.{node_seen}
use Rattle.nr_world.proofs.Changed.{worker_changed}
use Rattle.nr_world.proofs.Batches.{whole_kept}
use Rattle.std.proofs.lemmas.List.{length-set}
use Rattle.nr_world.proofs.node.WorldNode.post.Goals as goal

pub returns-clause-posted : goal.returns-clause-posted
returns-clause-posted c =
    let at : c.index_mut.result.now ≡ get_or c.args.self.now.workers.items c.args.worker c.index_mut.result.now = search rules in
    ap (λ (workers : List nodes.Worker). record (node_seen c.args.self.now) { workers = workers })
    (worker_changed posted_worker c.args.self.now.workers.items c.args.self.now.replica.owed c.args.worker c.post.new.self c.index_mut.result.now
    c.requires.is_there c.requires.owed at c.in_ok-post.ensures)

pub returns-clause-whole : goal.returns-clause-whole
returns-clause-whole c = λ n whole.
    whole_kept n c.args.self.now _ refl refl refl refl
    (length-set c.args.self.now.workers.items c.args.worker c.post.new.self) refl whole
