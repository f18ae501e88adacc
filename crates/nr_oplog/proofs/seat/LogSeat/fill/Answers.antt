use Rattle.std.proofs.Common.{rules, sym, ap, ◌∙◌, get_or, None, IsSome}
use Rattle.nr_oplog.proofs.Seating.{some_share}
use Rattle.nr_oplog.proofs.seat.LogSeat.fill.Goals as goal

pub put-requires-clause-share : goal.put-requires-clause-share
put-requires-clause-share g c =
    let some : IsSome (get_or c.self.inside.seat.me.0.standing.unfilled c.args.node None) = search rules in
    some_share (get_or c.self.inside.seat.me.0.standing.unfilled c.args.node None) c.take-share.result some (c.take-share.ensures.share ∙ ap (λ l. get_or l c.args.node None) (sym c.self.invariant.3.shares_are))
