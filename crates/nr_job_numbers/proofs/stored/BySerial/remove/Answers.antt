use Rattle.std.proofs.Common.{◌∙◌, ap}
use Rattle.std.specs.FinMap as finmap
use Rattle.nr_job_numbers.proofs.Seen.{removed_seen}
use Rattle.nr_job_numbers.proofs.stored.BySerial.remove.Goals as goal

pub returns : goal.returns
returns c =
    removed_seen c.self.inside.accounts.entries c.remove.new.self.entries c.args.serial c.self.invariant c.remove.ensures.ordered c.remove.ensures.updates.0
    ∙ ap (λ held. finmap.remove held c.args.serial) c.self.view_is
