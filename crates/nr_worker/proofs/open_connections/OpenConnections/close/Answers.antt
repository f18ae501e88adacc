use Rattle.std.proofs.Common.{rules, ◌≡◌, ◌+◌, Bool, length, is_some, true, if◌then◌else◌, None, ap, ◌∙◌, subst}
use Rattle.nr_worker.specs.Placed.{OpenConnectionsState, seat_at, IsPut}
use Rattle.nr_worker.proofs.Found.{put_by}
use Rattle.nr_worker.proofs.open_connections.OpenConnections.close.Goals as goal

pub returns-clause-fewer : goal.returns-clause-fewer
returns-clause-fewer c = λ there.
    let here : is_some (seat_at c.args.serial c.self.inside.by_serial.entries) ≡ true = search (rules, there) in
    let some : is_some c.remove.result ≡ true = search (rules, here) in
    subst (λ (b : Bool). length c.remove.new.self.entries + (if b then 1 else 0) ≡ length c.self.inside.by_serial.entries) some c.remove.ensures.len
    ∙ ap length c.self.view_is

pub returns-clause-gone : goal.returns-clause-gone
returns-clause-gone c =
    subst (λ (s : OpenConnectionsState). IsPut c.args.serial None s c.remove.new.self.entries) c.self.view_is
    (put_by c.self.inside.by_serial.entries c.remove.new.self.entries c.args.serial None c.remove.ensures.updates.0)
