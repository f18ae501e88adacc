use Rattle.std.proofs.Common.{◌≡◌, false, take}
use Rattle.nr_model.specs.Nodes.Steps.{texts_for}
use Rattle.nr_model.specs.Queues.{puts}
use Rattle.nr_model.specs.Servers.{emitted_all}
use Rattle.nr_entry.specs.Jobs.{items_of}
use Rattle.nr_replica.proofs.answering.answer_each.Given as goal

-- what those before the index emit came whole
abbrev pub invariant-loop-job : goal.invariant-loop-job
invariant-loop-job l =
    (l.outbox ≡ puts l.fn.outbox (texts_for l.fn.outbox.connection (emitted_all l.machine.state (items_of (take l.job-index l.jobs))))) × (l.outbox.cut ≡ false)
