use Rattle.std.proofs.Common.{rules, arith, false, ◌≡◌, get_or, refl}
use Rattle.nr_replica.proofs.Marked.{set_marked, still_marked, has_past}
use Rattle.nr_replica.proofs.ready.ReadySerials.remove.Goals as goal

pub returns-then-worker-len : goal.returns-then-worker-len
returns-then-worker-len c =
    let sets = c.args.self.now.sets.items in
    let at : c.index_mut.result.now ≡ get_or sets c.args.worker c.index_mut.result.now = search rules in
    set_marked c.args.worker c.args.serial false sets c.index_mut.result.now c.remove.new.self c.index_mut.result.now (omega arith) at c.remove.ensures.updates.0

pub returns-else-worker-len : goal.returns-else-worker-len
returns-else-worker-len c =
    let sets = c.args.self.now.sets.items in
    still_marked c.args.worker c.args.serial false sets sets (has_past sets c.args.worker c.args.serial (omega arith)) (λ w s. refl)
