use Rattle.std.proofs.Common.{◌≡◌, ◌∙◌, ap, sym, true, map, rules}
use Rattle.std.specs.Prelude.{fold}
use Rattle.std.specs.FinMap as finmap
use Rattle.nr_model.specs.Keyspace.{live}
use Rattle.nr_model.specs.SortedSets.{gathered, weighted, are_scores}
use Rattle.nr_model.specs.Commands.SortedSets.{sources_at}
use Rattle.nr_resp.proofs.Refusals.{refused_weaker}
use Rattle.nr_ranked.specs.Storing.{scores_in}
use Rattle.nr_ranked.specs.Sums.{sums_of, kept_in}
use Rattle.nr_ranked.proofs.StoringDone.{read_joined, read_refused, both_ok}
use Rattle.nr_ranked.proofs.storing.joined.Goals as goal

pub returns-clause-joined : goal.returns-clause-joined
returns-clause-joined c =
    let options = c.args.request.options in
    let sources = map scores_in c.in_ok-held.held.items in
    let sums = sums_of c.in_ok-sums.sums in
    let summed : sums ≡ fold (gathered options.aggregate) finmap.empty (weighted sources options.weights.items) = search rules in
    let same : c.deref-3.result.now ≡ c.in_ok-held.held.items = search rules in
    both_ok (λ zset. zset ≡ kept_in c.args.joining (map scores_in c.deref-3.result.now) sums) (λ zset. are_scores zset ≡ true) _ c.built.result
    (λ zset is right.
    read_joined c.args.joining options.aggregate (sources_at (live c.args.keyspace.now c.args.now) c.args.database c.args.request.names.now) sources options.weights.items sums
    c.in_ok-held.ensures.sources summed zset (is ∙ ap (λ held. kept_in c.args.joining (map scores_in held) sums) same) right)
    c.built.ensures.built c.built.ensures.scores

pub returns-clause-refused : goal.returns-clause-refused
returns-clause-refused c =
    let options = c.args.request.options in
    let sources = map scores_in c.in_ok-held.held.items in
    let sums = sums_of c.in_ok-sums.sums in
    let summed : sums ≡ fold (gathered options.aggregate) finmap.empty (weighted sources options.weights.items) = search rules in
    let same : c.deref-3.result.now ≡ c.in_ok-held.held.items = search rules in
    refused_weaker c.built.result _ _
    (λ error is.
    read_refused c.args.joining options.aggregate (sources_at (live c.args.keyspace.now c.args.now) c.args.database c.args.request.names.now) sources options.weights.items sums
    c.in_ok-held.ensures.sources summed error is.0 (ap (λ held. are_scores (kept_in c.args.joining (map scores_in held) sums)) (sym same) ∙ is.1))
    c.built.ensures.refused
