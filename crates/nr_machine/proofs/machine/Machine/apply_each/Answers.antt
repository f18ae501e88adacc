use Rattle.std.proofs.Common.{arith, ◌≡◌, true, List, refl, ap, ◌∙◌}
use Rattle.nr_model.specs.Entries.{entry_items}
use Rattle.nr_entry.specs.Entry.{are_updates}
use Rattle.nr_entry.specs.Jobs.{items_of}
use Rattle.nr_entry.specs.declared.job.Job.{Job}
use Rattle.nr_emission.proofs.Sent.{on_err}
use Rattle.nr_machine.specs.Machines.{MachineState}
use Rattle.nr_machine.specs.Placed.{items_at}
use Rattle.nr_machine.proofs.Entries.{items_at-entry, updates_at, none_yet, one_further, so_far}
use Rattle.nr_machine.proofs.machine.Machine.apply_each.Goals as goal

pub loop-job-init : goal.loop-job-init
loop-job-init g c =
    let moment = c.args.entry.now.moment in
    let all : items_at c.deref-job-items.result.now moment ≡ entry_items (items_of c.args.entry.now.jobs.items) =
    ap (λ (jobs : List Job). items_at jobs moment) c.deref-job-items.ensures.value ∙ items_at-entry c.args.entry.now.jobs.items moment c.args.entry.now.latest in
    record {
      failed = refl;
      along = none_yet g.S.Sink.after c.args.node _ _ _ _ c.deref-job-items.result.now moment refl all;
    }

pub apply_job-requires : goal.apply_job-requires
apply_job-requires g c =
    let updates : are_updates (items_of c.deref-job-items.result.now) ≡ true = ap (λ (jobs : List Job). are_updates (items_of jobs)) c.deref-job-items.ensures.value ∙ c.args.entry.now.updates in
    updates_at c.deref-job-items.result.now c.loop-job.job-index c.job-item.result updates (omega arith) c.job-item.is

pub returns-in_err-apply_job-clause-partly : goal.returns-in_err-apply_job-clause-partly
returns-in_err-apply_job-clause-partly g c =
    on_err c.from_residual.result _
    (so_far g.S.Sink.after c.args.node _ _ _ _ c.apply_job.new.out _ c.deref-job-items.result.now c.args.entry.now.moment c.loop-job.job-index c.job-item.result (omega arith) c.job-item.is
    c.in_err-apply_job.ensures.partly c.loop-job.invariant.along)

pub loop-job-preserved : goal.loop-job-preserved
loop-job-preserved g c = record {
  failed = rw c.in_ok-apply_job.ensures.applied c.loop-job.invariant.failed;
  along =
      one_further g.S.Sink.after c.args.node _ _ _ _ _ _ _ c.deref-job-items.result.now c.args.entry.now.moment c.loop-job.job-index c.job-item.result (omega arith) c.job-item.is
      (ap (λ (s : MachineState). s.state) c.in_ok-apply_job.ensures.applied) c.in_ok-apply_job.ensures.emitted c.loop-job.invariant.along;
}
