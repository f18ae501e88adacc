use Rattle.std.proofs.Common.{rules, ◌≡◌, ◌<◌, length, sym, subst}
use Rattle.nr_slots.specs.Names.{IsForLast}
use Rattle.nr_slots.specs.Seats.{CombinerView, desk_of}
use Rattle.nr_slots.proofs.Seating.{replied_kept}
use Rattle.nr_slots.proofs.combiner.CombinerSeat.answer.Goals as goal

pub put_answer-requires-clause-lifted : goal.put_answer-requires-clause-lifted
put_answer-requires-clause-lifted c = subst (λ (z : CombinerView). IsForLast c.args.answer (desk_of z c.args.worker).lifted (desk_of z c.args.worker).answered) (sym c.self.view_is) c.requires.lifted

pub invariant_of-self : goal.invariant_of-self
invariant_of-self c =
    let last = subst (λ (z : CombinerView). IsForLast c.args.answer (desk_of z c.args.worker).lifted (desk_of z c.args.worker).answered) (sym c.self.view_is) c.requires.lifted in
    let near : c.args.worker < length c.self.inside.seat.me.0.desks = search rules in
    let same : length c.self.inside.seat.me.0.desks ≡ c.slots.inside.table.shared.key = search rules in
    let wide : length c.self.inside.holds ≡ 16 = search rules in
    let wide' : length c.self.inside.counts ≡ 16 = search rules in
    replied_kept c.put_answer.new.seat.table_id _ c.args.worker c.self.inside.holds c.self.inside.counts c.self.inside.seat.me.0.desks c.self.inside.seat.me.0.looks c.put_answer.new.seat.me wide wide' c.self.invariant.1 (search rules) near same c.self.invariant.3 c.self.invariant.4 c.args.answer c.saturating_add.result c.saturating_add.ensures last c.put_answer.ensures.view
