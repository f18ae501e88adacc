use Rattle.nr_crew.proofs.Together.{left_more}
use Rattle.std.proofs.Common.{◌∙◌, ap, [], ◌∷◌, ◌++◌}
use Rattle.nr_crew.specs.Places.{places_left}
use Rattle.nr_crew.proofs.InPlace.{one_more}
use Rattle.nr_crew.proofs.Limits.{within_more}
use Rattle.nr_crew.proofs.running.join_one.Goals as goal

pub returns-clause-answered : goal.returns-clause-answered
returns-clause-answered g c = λ all.
    left_more g.S.Stream.received g.S.Stream.sent g.M.Moments.gives g.D.Poller.parted _ _ _ _ c.join-mark.result.mark c.join-mark.result.left
    c.push_reserved.ensures.items c.push_reserved-2.ensures.items all c.join-mark.ensures.0

pub returns-clause-within : goal.returns-clause-within
returns-clause-within g c = λ all. within_more c.args.handle.promise.limits _ _ c.join-mark.result.left c.push_reserved-2.ensures.items all c.join-mark.ensures.1

pub returns-clause-placed : goal.returns-clause-placed
returns-clause-placed g c =
    one_more _ _ c.join-mark.result.left c.push_reserved-2.ensures.items
    ∙ ap (λ p. places_left c.args.lefts.now.items ++ p ∷ []) (λ i. (c.join-mark.ensures.2 i, c.join-mark.ensures.3 i))
