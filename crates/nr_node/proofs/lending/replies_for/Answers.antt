use Rattle.std.proofs.Common.{◌≡◌, true, ap, sym, ◌∙◌, rules}
use Rattle.std.specs.Prelude.{Some}
use Rattle.nr_node.specs.Lending.{PreparedState}
use Rattle.nr_node.proofs.Loans.{ready_for}
use Rattle.nr_node.proofs.lending.replies_for.Goals as goal

pub returns-clause-ready : goal.returns-clause-ready
returns-clause-ready g c = λ jobs ready.
    let inside = c.prepared.inside in
    let p : PreparedState = record { replies = inside.replies.items; standing = inside.token.standing } in
    let as_far : c.is_as_far.result ≡ true = search rules in
    ready_for c.args.end.now.standing c.args.prepared p jobs (c.in-Some.is ∙ ap Some (sym c.prepared.view_is)) c.requires.sound (c.is_as_far.ensures.as_many.0 as_far)
    c.is_as_far.ensures.of_one_log.0 ready
