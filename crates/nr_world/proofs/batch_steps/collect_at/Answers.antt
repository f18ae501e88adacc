use Rattle.std.proofs.Common.{rules, arith, ◌≡◌, ◌∙◌, true, None, [], get_or, ap, refl}
use Rattle.std.specs.Prelude.{not}
use Rattle.std.specs.Option.{option_map, is_some}
use Rattle.nr_model.specs.Nodes as nodes
use Rattle.nr_model.specs.Nodes.Steps as steps
use Rattle.nr_world.specs.Seen.{handed_seen, answer_seen}
use Rattle.nr_world.specs.Served.{node_seen}
use Rattle.nr_world.specs.Batches.{executed_in}
use Rattle.nr_world.proofs.Standing.{paired_length}
use Rattle.nr_world.proofs.Batches.{worker_is, answer_is, answering, mapped_some, collect_done}
use Rattle.nr_world.proofs.Behind.{as_long}
use Rattle.nr_world.proofs.batch_steps.collect_at.Goals as goal
use Rattle.nr_world.proofs.batch_steps.collect_at.Goals.{else-is_none-via-then-is_none+else-len-before, else-is_none-via-else-is_none}

pub collect-requires-clause-clients : goal.collect-requires-clause-clients
collect-requires-clause-clients c = paired_length c.args.number 0 c.args.node.now.sessions c.args.node.now.replica.members c.requires.whole.pairs

pub returns-clause-collected : goal.returns-clause-collected
returns-clause-collected c =
    let old : nodes.Node = node_seen c.args.node.now in
    let at : c.index.result.now ≡ get_or c.args.node.now.workers.items c.args.worker c.index.result.now = search rules in
    let batches = ap (λ (v : nodes.Worker). v.batches) (worker_is c.args.node.now c.args.worker c.index.result.now c.requires.stands c.requires.whole.owed
    at) in
    let is : c.in_ok-executed.executed ≡ executed_in (nodes.worker_at c.args.worker old).slot = c.in_ok-executed.ensures.answer in
    let took : option_map answer_seen c.answer_to-answer.result
    ≡ option_map (answering c.args.number c.args.worker c.index.result.now.batches) c.in_ok-executed.executed = c.answer_to-answer.ensures in
    let some : c.in_ok-executed.executed ≡ None → steps.collected c.args.worker old.clients ≡ [] → ⊥ = λ none empty.
    elim c.else-is_none.branch [
      | else-is_none-via-then-is_none+else-len-before w ↦
          let same = as_long handed_seen c.args.handed.now.items c.collect.new.handed.items (steps.collected c.args.worker old.clients)
          c.in_ok-executed.ensures.handed empty in
          w.if-len-before.false (omega (arith, same, w.len.ensures, c.len-before.ensures, c.collect.new.handed.ok.0, c.args.handed.now.ok.0))
      | else-is_none-via-else-is_none w ↦
          let there : is_some c.answer_to-answer.result ≡ true = c.is_none.ensures ∙ ap not w.if-is_none.false in
          mapped_some answer_seen c.answer_to-answer.result there (took
          ∙ ap (option_map (answering c.args.number c.args.worker c.index.result.now.batches)) none)
    ] in
    record {
      comes_to = collect_done c.args.worker old c.in_ok-executed.executed (steps.collected c.args.worker old.clients) is refl some;
      node = c.in_ok-executed.ensures.node;
      handed_out = refl;
      taken = took ∙ (λ i. option_map (answering c.args.number c.args.worker (batches i)) (is i))
          ∙ answer_is c.args.number c.args.worker (nodes.worker_at c.args.worker old);
    }
