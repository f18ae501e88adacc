use Rattle.std.proofs.Common.{rules, ◌≡◌, ◌++◌, None, List, get_or, refl, ap, ◌∙◌}
use Rattle.std.specs.Prelude.{map}
use Rattle.std.proofs.lemmas.List.{length-set}
use Rattle.nr_model.specs.Connections as traffic
use Rattle.nr_model.specs.Nodes as nodes
use Rattle.nr_world.specs.declared.worker.WorldWorker.{WorldWorker}
use Rattle.nr_world.specs.Batches.{executed_in}
use Rattle.nr_world.specs.Seen.{handed_seen}
use Rattle.nr_world.proofs.Batches.{worker_is, whole_collected}
use Rattle.nr_world.proofs.Collected.{collected_is, clients_collected}
use Rattle.nr_world.proofs.node.WorldNode.collect.Goals as goal

pub returns-clause-node : goal.returns-clause-node
returns-clause-node c =
    let old : WorldWorker = c.index_mut.result.now in
    let at : old ≡ get_or c.args.self.now.workers.items c.args.worker old = search rules in
    collected_is c.args.self.now c.args.worker c.collect-answer.new.self old c.collect.new.replica c.requires.is_there c.requires.owed at
    c.collect-answer.ensures.worker c.in_ok-collect.ensures.members

pub returns-clause-handed : goal.returns-clause-handed
returns-clause-handed c =
    c.in_ok-collect.ensures.handed
    ∙ ap (λ (more : List traffic.Handed). map handed_seen c.args.handed.now.items ++ more)
    (clients_collected c.args.worker c.args.self.now.sessions c.args.self.now.replica.members c.requires.clients)

pub returns-clause-answer : goal.returns-clause-answer
returns-clause-answer c =
    let old : WorldWorker = c.index_mut.result.now in
    let at : old ≡ get_or c.args.self.now.workers.items c.args.worker old = search rules in
    c.collect-answer.ensures.answer (get_or c.args.self.now.replica.owed c.args.worker None)
    ∙ ap (λ (v : nodes.Worker). executed_in v.slot) (worker_is c.args.self.now c.args.worker old c.requires.is_there c.requires.owed at)

pub returns-clause-whole : goal.returns-clause-whole
returns-clause-whole c = λ n whole.
    whole_collected n c.args.worker c.args.self.now _ c.in_ok-collect.ensures.members refl
    (length-set c.args.self.now.workers.items c.args.worker c.collect-answer.new.self) refl whole
