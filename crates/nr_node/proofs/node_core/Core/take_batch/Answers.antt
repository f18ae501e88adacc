use Rattle.std.proofs.Common.{◌≡◌, ℕ, ◌++◌, ap, sym, ◌∙◌, subst}
use Rattle.std.specs.Prelude.{IsTrue, None, slice_index_or}
use Rattle.std.specs.List.{AllByRecursion}
use Rattle.nr_entry.specs.Entry.{are_of}
use Rattle.nr_entry.specs.Jobs.{items_of}
use Rattle.nr_model.specs.Entries.{Jobs}
use Rattle.nr_job_numbers.specs.Book.{Book, HasTaken, with_batch}
use Rattle.nr_job_numbers.proofs.Batches.{all_of_due}
use Rattle.nr_node.specs.Kept.{IsKept}
use Rattle.nr_node.specs.Level.{NodeState}
use Rattle.nr_node.proofs.Served.{all_are_of}
use Rattle.nr_node.specs.Next.{jobs_next}
use Rattle.nr_node.specs.Owing.{IsServedBy}
use Rattle.nr_node.proofs.Taking.{batch_kept, batch_served}
use Rattle.nr_node.proofs.node_core.Core.take_batch.Goals as goal

pub lift-requires-clause-own : goal.lift-requires-clause-own
lift-requires-clause-own g c =
    let keeps = c.self.invariant in
    let book = c.self.inside.accounts in
    let batch = c.args.batch in
    let jobs = items_of batch.jobs.items in
    subst (λ (n : ℕ). IsTrue (are_of n jobs)) (keeps.0.order.book_is ∙ keeps.0.level.node)
    (all_are_of book.node batch.worker book.held jobs (all_of_due book batch.node batch.worker batch.number jobs c.in-Ok.ensures.due))

pub invariant_of-self-in-Ok-lift : goal.invariant_of-self-in-Ok-lift
invariant_of-self-in-Ok-lift g c =
    let keeps = c.self.invariant in
    let inside = c.self.inside in
    let idle : slice_index_or inside.replica.owed c.args.batch.worker None ≡ None =
    ap (λ (n : NodeState). slice_index_or n.replica.owed c.args.batch.worker None) c.self.view_is ∙ c.requires.idle in
    let counts : (jobs : Jobs) → HasTaken inside.accounts jobs → HasTaken (with_batch c.args.batch inside.accounts) (jobs ++ items_of c.args.batch.jobs.items) =
    λ jobs h. subst (λ (b : Book). HasTaken b (jobs ++ items_of c.args.batch.jobs.items)) c.in-Ok.ensures.taken (c.in-Ok.ensures.numbered jobs h) in (
      subst (λ (b : Book). IsKept inside.end.standing c.lift.new.self b inside.next inside.nodes) (sym c.in-Ok.ensures.taken)
          (batch_kept inside.end.standing inside.replica c.lift.new.self inside.accounts inside.next inside.nodes c.args.batch c.in-Ok.ensures.due c.in-Ok.ensures.worker idle
          (sym c.is_down.ensures ∙ c.if-is_down.false)
          c.in-Ok-lift.ensures.lifted counts keeps.0),
      keeps.1,
      keeps.2,
      keeps.3,
      keeps.4,
      keeps.5,
    )

pub returns-in-Ok-lift-clause-served : goal.returns-in-Ok-lift-clause-served
returns-in-Ok-lift-clause-served g c =
    let keeps = c.self.invariant in
    let inside = c.self.inside in
    let batch = c.args.batch in
    subst (λ (n : NodeState). AllByRecursion (IsServedBy batch.worker n.replica.members) (items_of batch.jobs.items)) c.self.view_is
    (batch_served inside.end.standing inside.replica inside.accounts (jobs_next inside.next) batch c.in-Ok.ensures.due keeps.0.order keeps.0.accounts).0
