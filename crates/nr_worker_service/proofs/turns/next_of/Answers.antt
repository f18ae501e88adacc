use Rattle.std.proofs.Common.{inr, rules}
use Rattle.nr_worker_service.proofs.turns.next_of.Goals as goal

pub returns-in-Ok-Done : goal.returns-in-Ok-Done
returns-in-Ok-Done c =
    λ rest.
    let done = c.next_done.ensures rest in
    record { answered = c.goes_on-is_at_work.ensures done.0; done = inr (search rules, search rules, done.1) }
