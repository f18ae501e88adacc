use Rattle.std.proofs.Common.{◌∙◌, ap, sym}
use Rattle.std.specs.FinMap as finmap
use Rattle.nr_job_numbers.proofs.Seen.{get_seen}
use Rattle.nr_job_numbers.proofs.stored.BySerial.get.Goals as goal

pub returns : goal.returns
returns c = c.get.ensures.value ∙ sym (get_seen c.self.inside.accounts.entries c.self.invariant c.args.serial) ∙ ap (λ held. finmap.get held c.args.serial) c.self.view_is
