use Rattle.std.proofs.Common.{◌≡◌, length, ap, sym, ◌∙◌, arith}
use Rattle.nr_combiner.specs.Served.{CombinerState}
use Rattle.nr_combiner.proofs.Rounds.{lifted_by_node}
use Rattle.nr_combiner.proofs.combiner.Combiner.turn.Goals as goal

pub lift_by-handed_back-requires : goal.lift_by-handed_back-requires
lift_by-handed_back-requires g c =
    let inside = c.self.inside in
    let served = c.self.invariant.0 in
    let count : c.len-workers.result ≡ length inside.numbers.items = omega (arith, c.len-workers.ensures, inside.numbers.ok.0) in
    count ∙ served.numbered ∙ sym served.workers ∙ ap (λ (x : CombinerState). length x.seat.desks) c.self.view_is

pub returns-clause-turned : goal.returns-clause-turned
returns-clause-turned g c = c.turn_lifted.ensures.turned c.args.lifts c.args.self.now c.lift_by-handed_back.ensures

pub returns-clause-node : goal.returns-clause-node
returns-clause-node g c =
    c.turn_lifted.ensures.node ∙ lifted_by_node c.args.lifts c.args.worker c.args.self.now c.lift_by-handed_back.new.combiner c.lift_by-handed_back.ensures

pub returns-clause-named : goal.returns-clause-named
returns-clause-named g c =
    c.turn_lifted.ensures.named
    ∙ ap g.B.ServerName.slots (lifted_by_node c.args.lifts c.args.worker c.args.self.now c.lift_by-handed_back.new.combiner c.lift_by-handed_back.ensures)
