use Rattle.std.proofs.Common.{slice_get, ap, sym, ◌∙◌}
use Rattle.nr_test_parts.proofs.Fresh.{posted_none}
use Rattle.nr_test_parts.proofs.alone.Alone.new.Goals as goal

pub returns : goal.returns
returns g c =
    posted_none c.in-Some.workers.items c.into_iter-2.result.rest.items c.next-2.new.self.rest.items c.in-Some-next.worker
    (c.in_ok-nodes.ensures.workers 0 c.in-Some.workers (ap (λ l. slice_get l 0) (sym c.into_iter.ensures.rest ∙ c.in-Some.ensures.items)))
    c.into_iter-2.ensures.rest c.in-Some-next.ensures.items
