use Rattle.std.proofs.Common.{rules, List, inr, ap, sym, subst, ◌∙◌}
use Rattle.nr_log_end.specs.Numbers.{AreRising}
use Rattle.nr_log_end.specs.declared.standing.LogEvent.{LogEvent}
use Rattle.nr_log_end.specs.Standings.{AreNextReads, applied_of, done_with, logged}
use Rattle.nr_oplog.specs.declared.view.LogView.{LogView}
use Rattle.nr_oplog.proofs.Fronts.{none_passed}
use Rattle.nr_oplog.proofs.Seating.{seated_done}
use Rattle.nr_oplog.proofs.seat.LogSeat.note_named.Goals as goal

pub load_tail_and_do-self-inside-requires-clause-none : goal.load_tail_and_do-self-inside-requires-clause-none
load_tail_and_do-self-inside-requires-clause-none g c = ap applied_of c.requires.turns ∙ none_passed c.args.jobs.now

pub load_tail_and_do-self-inside-requires-clause-rising : goal.load_tail_and_do-self-inside-requires-clause-rising
load_tail_and_do-self-inside-requires-clause-rising g c =
    let s = c.self.inside.seat.me.0.standing in
    inr (subst (λ (turns : List LogEvent). AreRising s.node (logged (done_with turns s.seen s))) (sym c.requires.turns)
    (subst (λ (v : LogView). AreNextReads c.args.jobs.now v.standing) (sym c.self.view_is) c.requires.rising))

pub invariant_of-self : goal.invariant_of-self
invariant_of-self g c = let f = c.load_tail_and_do-self-inside.ensures in (
  search rules,
  search rules,
  search rules,
  seated_done _ _ _ (ap applied_of c.requires.turns ∙ none_passed c.args.jobs.now) _ _ _ _ _ _ _ _ c.self.invariant.3 f.view,
)
