use Rattle.std.proofs.Common.{rules, ◌≡◌, sym, subst}
use Rattle.nr_log_end.specs.Standings.{IsSharesFor}
use Rattle.nr_log_end.specs.Reserves.{IfFull}
use Rattle.nr_log_end.specs.Tries.{IsFull}
use Rattle.nr_oplog.specs.declared.view.LogView.{LogView}
use Rattle.nr_oplog.proofs.end.EndLogEnd.reserve.Goals as goal

pub reserve-requires-clause-shares : goal.reserve-requires-clause-shares
reserve-requires-clause-shares g c =
    let is : c.args.self.now ≡ c.self.inside.seat = search rules in subst (λ (v : LogView). IsSharesFor v.standing c.args.shares) is c.requires.shares

pub returns-clause-full : goal.returns-clause-full
returns-clause-full g c =
    let is : c.args.self.now ≡ c.self.inside.seat = search rules in let w = c.reserve.new.self in
    subst (λ (v : LogView). IfFull c.reserve.result (λ back. (back ≡ c.args.shares) × IsFull v.standing v.looks g.B.LogName.places w.standing w.looks)) (sym is) c.reserve.ensures.full
