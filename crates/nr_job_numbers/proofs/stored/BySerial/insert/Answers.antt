use Rattle.std.proofs.Common.{◌∙◌, ap}
use Rattle.std.specs.FinMap as finmap
use Rattle.nr_job_numbers.proofs.Seen.{inserted_seen}
use Rattle.nr_job_numbers.proofs.stored.BySerial.insert.Goals as goal

pub returns-clause-ok : goal.returns-clause-ok
returns-clause-ok c =
    inserted_seen c.self.inside.accounts.entries c.insert.new.self.entries c.args.serial c.args.account c.self.invariant c.in_ok-insert.ensures.ordered
    c.in_ok-insert.ensures.updates.0
    ∙ ap (λ held. finmap.insert held c.args.serial c.args.account) c.self.view_is
