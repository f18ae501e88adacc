use Rattle.std.proofs.Common.{◌≡◌, drop}
use Rattle.nr_model.specs.Entries.{entry_items}
use Rattle.nr_entry.specs.Jobs.{items_of}
use Rattle.nr_machine.proofs.Entries.{Along}
use Rattle.nr_machine.proofs.machine.Machine.apply_each.Given as goal

abbrev pub invariant-loop-job : goal.invariant-loop-job
invariant-loop-job g l = record {
  failed : l.self.failed ≡ l.fn.self.failed;
  along : Along g.S.Sink.after l.node l.fn.self.state l.self.state l.fn.out l.out (entry_items (items_of l.entry.jobs.items)) (drop l.job-index l.job-items) l.entry.moment;
}
