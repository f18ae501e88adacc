-- The connection was opened, and served to its end.
use Rattle.std.proofs.Common.{arith, refl}
use Rattle.nr_service.specs.Stories.{beginning}
use Rattle.nr_server.specs.Runs.{alone}
use Rattle.nr_server.proofs.Ended.{begun_fed, none_served, served, sized_on, calm_on}
use Rattle.nr_server.proofs.run.serve_stream.Goals as goal

pub returns : goal.returns
returns g c =
    let taken = c.in_ok-admit.ensures.ok.serves.further (beginning alone)
    (none_served _ _ _ c.in_ok-service.service.answers _ c.in_ok-service.ensures.none
    (rw c.in_ok-service.ensures.answers (rw (← c.alone.ensures) c.in_ok-answering.ensures.past))) in
    let timed = begun_fed _ _ _ _ _ _ taken.next taken.more taken.is taken.feeds taken.closed c.in_ok-service.ensures.clock c.in_ok-service.ensures.moment
    c.in_ok-admit.ensures.clock c.in_ok-admit.ensures.moment in
    served _ _ _ _ c.args.clock _ _ c.exchange_all-done.new.service.answers taken.next _ c.swap_remove-stream.result _
    (sized_on (beginning alone) taken.next taken.more taken.is refl)
    (calm_on (beginning alone) taken.next taken.more taken.is taken.closed refl) (omega (arith, c.if-is_empty.ensures))
    c.swap_remove-stream.ensures.value (c.exchange_all-done.ensures c.args.clock taken.next taken.served timed)
