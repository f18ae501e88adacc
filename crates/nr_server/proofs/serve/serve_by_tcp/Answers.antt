use Rattle.std.proofs.Common.{rules, inl, subst, ◌∙◌, ◌*◌}
use Rattle.nr_crew.specs.Ended.{HasEnded}
use Rattle.nr_crew.specs.Left.{AreServedWithin}
use Rattle.nr_crew.specs.Places.{places_from}
use Rattle.nr_server.proofs.serve.serve_by_tcp.Goals as goal

pub returns : goal.returns
returns g c =
    let size = c.setup_of.ensures in
    let served = c.in_ok-served.ensures in
    let lefts = c.in_ok-served.served.lefts.items in
    let ended = c.in_ok-served.served.ended in
    record {
      served = inl record {
        lefts = lefts;
        replicas = served.together.0;
        together = served.together.1;
        within = subst (λ limit. AreServedWithin (record { limit = limit; timeout = c.args.settings.now.timeout * 1000 }) lefts) size.limit served.within;
        ended = ended;
        have_ended = subst (λ workers. HasEnded workers ended lefts) (λ i. size.nodes i * size.workers i) served.ended;
        in_place = (served.in_place.0, served.in_place.1 ∙ (λ i. places_from 0 (size.nodes i) (size.workers i)));
        is_mute = c.in_ok-served.reception.is_mute;
        says = search (rules, c.ended_by-ended.ensures);
      };
    }
