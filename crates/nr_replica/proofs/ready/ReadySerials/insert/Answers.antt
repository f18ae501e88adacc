use Rattle.std.proofs.Common.{rules, true, ◌≡◌, ◌∙◌, get_or}
use Rattle.nr_replica.proofs.Marked.{set_marked, marked_behind, set_as_before, on_err}
use Rattle.nr_replica.proofs.ready.ReadySerials.insert.Goals as goal

pub returns-in_err-insert-clause-kept : goal.returns-in_err-insert-clause-kept
returns-in_err-insert-clause-kept c =
    let sets = c.reach.new.sets.items in
    let at : c.index_mut.result.now ≡ get_or sets c.args.worker c.index_mut.result.now = search rules in
    on_err c.from_residual-in_err-insert.result (λ w s.
    set_as_before c.args.worker sets c.index_mut.result.now c.insert.new.self c.index_mut.result.now c.in_ok-reach.ensures.there at c.in_err-insert.ensures.err w s
    ∙ c.reach.ensures.kept w s)

pub returns-clause-marked : goal.returns-clause-marked
returns-clause-marked c =
    let sets = c.reach.new.sets.items in
    let at : c.index_mut.result.now ≡ get_or sets c.args.worker c.index_mut.result.now = search rules in
    marked_behind c.args.worker c.args.serial true c.args.self.now.sets.items sets _ c.reach.ensures.kept
    (set_marked c.args.worker c.args.serial true sets c.index_mut.result.now c.insert.new.self c.index_mut.result.now c.in_ok-reach.ensures.there at
    c.in_ok-insert.ensures.updates.0)
