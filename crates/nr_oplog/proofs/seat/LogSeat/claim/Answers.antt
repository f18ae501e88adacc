use Rattle.std.proofs.Common.{rules, ◌<◌, ◌++◌, ◌∙◌, ap, sym, subst, get_or, None}
use Rattle.nr_entry.specs.Jobs.{items_of}
use Rattle.nr_log_end.specs.Numbers.{AreRising}
use Rattle.nr_log_end.specs.Standings.{logged}
use Rattle.nr_oplog.specs.declared.view.LogView.{LogView}
use Rattle.nr_oplog.proofs.Seating.{first_share}
use Rattle.nr_oplog.proofs.seat.LogSeat.claim.Goals as goal

pub claim-found-requires-clause-entry : goal.claim-found-requires-clause-entry
claim-found-requires-clause-entry g c =
    let q = c.requires.shares in let near = c.self.invariant.3.below in
    let some : 0 < c.args.self.now.standing.nodes = search rules in (
      q.0,
      c.get.ensures ∙ ap (λ l. get_or l 0 None) q.1 ∙ first_share q.0 c.args.self.now.standing.nodes some,
      search rules,
      subst (λ (v : LogView). AreRising v.standing.node (logged v.standing ++ items_of q.0.jobs.items)) (sym c.self.view_is) q.3,
    )
