use Rattle.std.proofs.Common.{rules, ◌≡◌, true, get_or, sym, ◌∙◌, ap}
use Rattle.std.specs.Prelude.{map, is_some}
use Rattle.std.specs.Option.{option_map}
use Rattle.nr_model.specs.Nodes.Steps as steps
use Rattle.nr_world.specs.Seen.{outcome_seen, handed_seen, answer_seen}
use Rattle.nr_world.specs.Served.{node_seen}
use Rattle.nr_world.proofs.Batches.{collected_at}
use Rattle.nr_world.proofs.Behind.{none_behind}
use Rattle.nr_world.proofs.world.World.collect_behind.Goals as goal

pub returns-then-not-is_worker-clause-taken : goal.returns-then-not-is_worker-clause-taken
returns-then-not-is_worker-clause-taken c =
    none_behind c.args.self.now c.args.node c.args.worker (map handed_seen c.args.handed.now.items) (sym c.is_worker.ensures.is ∙ c.if-not-is_worker.true)

pub returns-in-Ok-clause-taken : goal.returns-in-Ok-clause-taken
returns-in-Ok-clause-taken c =
    let s = c.self.inside in
    let is : steps.is_worker c.args.self.now.setup c.args.node c.args.worker ≡ true = sym c.is_worker.ensures.is ∙ c.if-not-is_worker.false in
    let at : c.index_mut.result.now ≡ get_or s.nodes.items c.args.node c.index_mut.result.now = search rules in
    record {
      more = steps.collected c.args.worker (node_seen c.index_mut.result.now).clients;
      behind = c.in-Ok.ensures.handed;
      taken = (collected_at c.args.self.now s.setup s.nodes.items s.log (is_some s.failed) (is_some s.failed) c.args.node c.args.worker c.collect_at.new.node
          c.index_mut.result.now (outcome_seen c.in-Ok.came.0) (steps.collected c.args.worker (node_seen c.index_mut.result.now).clients)
          (option_map answer_seen c.in-Ok.came.1) c.self.view_is (ap is_some c.in_default.is) (ap is_some c.in_default.is) c.self.invariant
          is (c.is_worker.ensures.there c.if-not-is_worker.false) at c.in-Ok.ensures.collected c.in-Ok.ensures.whole).0;
    }

pub invariant_of-self : goal.invariant_of-self
invariant_of-self c = λ still.
    let s = c.self.inside in
    let is : steps.is_worker c.args.self.now.setup c.args.node c.args.worker ≡ true = sym c.is_worker.ensures.is ∙ c.if-not-is_worker.false in
    let at : c.index_mut.result.now ≡ get_or s.nodes.items c.args.node c.index_mut.result.now = search rules in
    (collected_at c.args.self.now s.setup s.nodes.items s.log (is_some s.failed) (is_some s.failed) c.args.node c.args.worker c.collect_at.new.node c.index_mut.result.now
    (outcome_seen c.in-Ok.came.0) (steps.collected c.args.worker (node_seen c.index_mut.result.now).clients)
    (option_map answer_seen c.in-Ok.came.1) c.self.view_is (ap is_some c.in_default.is) (ap is_some c.in_default.is) c.self.invariant
    is (c.is_worker.ensures.there c.if-not-is_worker.false) at c.in-Ok.ensures.collected c.in-Ok.ensures.whole).1
