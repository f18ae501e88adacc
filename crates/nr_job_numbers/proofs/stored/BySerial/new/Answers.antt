use Rattle.nr_job_numbers.proofs.Seen.{none_seen}
use Rattle.nr_job_numbers.proofs.stored.BySerial.new.Goals as goal

pub returns : goal.returns
returns c = none_seen c.new.result.entries c.new.ensures.empty
