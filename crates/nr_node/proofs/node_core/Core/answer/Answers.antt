use Rattle.std.proofs.Common.{◌≡◌, None, Some, refl, sym, ◌∙◌, ap}
use Rattle.std.specs.Prelude.{slice_index_or}
use Rattle.nr_entry.specs.declared.batch.Outcome.TheVariants as outcomes
use Rattle.nr_node.specs.Level.{NodeState}
use Rattle.nr_node.specs.Next.{jobs_next}
use Rattle.nr_node.specs.Owing.{answer_by, answer_of}
use Rattle.nr_node.proofs.Taking.{none_owed_by, executed_up, answered_kept, all_executed, executed_still}
use Rattle.nr_node.proofs.node_core.Core.answer.Goals as goal

pub invariant_of-self : goal.invariant_of-self
invariant_of-self g c =
    let keeps = c.self.invariant in
    let inside = c.self.inside in
    let worker = c.args.worker in
    let known : answer_by (slice_index_or inside.replica.owed worker None) inside.replica.down ≡ Some c.in-Some.outcome =
    ap (λ (n : NodeState). answer_of n worker) c.self.view_is ∙ sym c.outcome.ensures ∙ c.in-Some.is in (
      answered_kept inside.end.standing inside.replica c.answered.new.self inside.accounts inside.next inside.nodes worker c.answered.ensures
          (none_owed_by _ _ _ known) keeps.0,
      keeps.1,
      keeps.2,
      keeps.3,
      keeps.4,
      keeps.5,
    )

pub returns-clause-executed : goal.returns-clause-executed
returns-clause-executed g c = λ e.
    let inside = c.self.inside in
    let worker = c.args.worker in
    let known : answer_by (slice_index_or inside.replica.owed worker None) inside.replica.down ≡ Some outcomes.Executed =
    ap (λ (n : NodeState). answer_of n worker) c.self.view_is ∙ sym c.outcome.ensures ∙ c.in-Some.is ∙ e in
    let up = executed_up _ _ known in
    let v : NodeState = record { seat = inside.end; replica = inside.replica; book = inside.accounts; next = jobs_next inside.next } in
    executed_still v worker c.answered.new.self c.answered.ensures (all_executed v inside.next inside.nodes worker up (none_owed_by _ _ _ known up) c.self.invariant.0 refl)
