use Rattle.std.proofs.Common.{◌≡◌, ◌<◌, ℕ, length, ap, sym, ◌∙◌, subst, arith}
use Rattle.nr_combiner.specs.Served.{CombinerState}
use Rattle.nr_combiner.proofs.Alone.{holds_alone}
use Rattle.nr_combiner.proofs.combiner.Combiner.lift_alone.Goals as goal

pub returns-clause-alone : goal.returns-clause-alone
returns-clause-alone g c =
    let inside = c.self.inside in
    let served = c.self.invariant.0 in
    let count : c.len.result ≡ length inside.numbers.items = omega (arith, c.len.ensures, inside.numbers.ok.0) in
    let workers : c.len.result ≡ length c.args.self.now.seat.desks = count ∙ served.numbered ∙ sym served.workers ∙ ap (λ (x : CombinerState). length x.seat.desks) c.self.view_is in
    let near : c.args.worker < length c.args.self.now.seat.desks = subst (λ (k : ℕ). c.args.worker < k) workers c.if-len-worker.false in
    holds_alone c.args.worker c.is_idle-is_idle.result c.where_idle.result c.lift-lifted.result.taken c.args.self.now c.lift-lifted.new.self near
    (λ idle. ap (λ (x : CombinerState). x.node.replica.waiting) (sym c.self.view_is) ∙ c.is_idle-is_idle.ensures idle) c.lift-lifted.ensures.taken c.where_idle.ensures
