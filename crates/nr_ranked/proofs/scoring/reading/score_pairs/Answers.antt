use Rattle.std.proofs.Common.{map, sym, ap, ◌∙◌}
use Rattle.nr_model.specs.Commands.SortedSets.{score_pairs}
use Rattle.nr_zsets.specs.Lists.{shown}
use Rattle.nr_ranked.specs.Reading.{with_front}
use Rattle.nr_ranked.proofs.Pairs.{front_grows}
use Rattle.nr_ranked.proofs.scoring.reading.score_pairs.Goals as goal

pub loop-pairs-preserved : goal.loop-pairs-preserved
loop-pairs-preserved c =
    let front = map shown c.loop-pairs.pairs.items in
    let behind = c.in-Some.behind.now in
    let some = rw c.in-Some.is at c.in_ok-pair.ensures.some in
    ap (λ front. with_front front (score_pairs behind)) c.in_ok-push.ensures
    ∙ sym (front_grows front (shown c.in-Some.pair) (score_pairs behind))
    ∙ ap (with_front front) (sym some)
    ∙ c.loop-pairs.invariant
