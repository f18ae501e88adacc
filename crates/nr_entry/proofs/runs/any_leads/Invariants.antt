use Rattle.std.proofs.Common.{◌≡◌, [], take}
use Rattle.nr_model.specs.Entries.{leading}
use Rattle.nr_entry.specs.Jobs.{items_of}
use Rattle.nr_entry.specs.Choice.{leads_among}
use Rattle.nr_entry.specs.Waiting.{has_some}
use Rattle.nr_entry.specs.Runs.{jobs_in}
use Rattle.nr_entry.proofs.runs.any_leads.Given as goal

abbrev pub invariant-loop-index : goal.invariant-loop-index
invariant-loop-index l = l.found ≡ has_some (leading (leads_among l.updates) [] (items_of (jobs_in (take l.index l.runs))))
