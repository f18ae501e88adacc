use Rattle.std.proofs.Common.{◌≡◌, length, ap, sym, ◌∙◌, arith}
use Rattle.nr_slots.specs.Seats.{CombinerView}
use Rattle.nr_combiner.specs.Served.{IsOwnOfBatch}
use Rattle.nr_combiner.proofs.Deeds.{none_jobs}
use Rattle.nr_combiner.proofs.Moves.{fresh_served}
use Rattle.nr_combiner.proofs.combiner.Combiner.new.Goals as goal

pub invariant_of-result : goal.invariant_of-result
invariant_of-result g c =
    let long : length c.resize.new.self.items ≡ c.args.workers = omega (arith, c.in_ok-resize.ensures.len, c.resize.new.self.ok.0) in (
      fresh_served c.args.core c.args.seat c.resize.new.self.items c.args.workers c.requires.owed (ap (λ (v : CombinerView). v.desks) c.requires.seat) long
          (none_jobs (IsOwnOfBatch c.args.core c.args.seat.desks) c.args.core c.requires.idle),
      ap (λ (v : CombinerView). v.slots) c.requires.seat,
      sym c.requires.node,
      ap (λ (v : CombinerView). v.slots) c.requires.seat ∙ c.requires.named ∙ ap g.B.ServerName.slots (sym c.requires.node),
    )
