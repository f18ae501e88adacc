use Rattle.std.proofs.Common.{◌≡◌, ℕ, length, ap, sym, ◌∙◌, subst, arith}
use Rattle.nr_combiner.specs.Served.{CombinerState}
use Rattle.nr_combiner.specs.Steps.{HasLiftedAll}
use Rattle.nr_combiner.specs.declared.answering.Lifts.TheVariants as lifts
use Rattle.nr_combiner.proofs.combiner.Combiner.combine.Goals as goal

pub lift_all-requires : goal.lift_all-requires
lift_all-requires g c =
    let inside = c.self.inside in
    let served = c.self.invariant.0 in
    let count : c.len-workers.result ≡ length inside.numbers.items = omega (arith, c.len-workers.ensures, inside.numbers.ok.0) in
    count ∙ served.numbered ∙ sym served.workers ∙ ap (λ (x : CombinerState). length x.seat.desks) c.self.view_is

pub returns-clause-combined : goal.returns-clause-combined
returns-clause-combined g c =
    let inside = c.self.inside in
    let served = c.self.invariant.0 in
    let count : c.len-workers.result ≡ length inside.numbers.items = omega (arith, c.len-workers.ensures, inside.numbers.ok.0) in
    let workers = count ∙ served.numbered ∙ sym served.workers ∙ ap (λ (x : CombinerState). length x.seat.desks) c.self.view_is in
    let lifted = subst (λ (k : ℕ). HasLiftedAll k c.args.self.now c.lift_all.new.combiner) workers c.lift_all.ensures in
    (c.combine_lifted.result.is_behind, c.combine_lifted.ensures.combined lifts.All 0 c.args.self.now lifted)
