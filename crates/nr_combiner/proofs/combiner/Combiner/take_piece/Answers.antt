use Rattle.std.proofs.Common.{ap, ◌∙◌}
use Rattle.nr_combiner.proofs.Moves.{handed_served}
use Rattle.nr_combiner.proofs.combiner.Combiner.take_piece.Goals as goal

pub invariant_of-self-2 : goal.invariant_of-self-2
invariant_of-self-2 g c =
    let inside = c.self.inside in
    let there = handed_served c.take_piece.result inside.core c.take_piece.new.self inside.seat inside.numbers.items c.args.conn.serial c.args.most _
    c.take_piece.ensures.none c.take_piece.ensures.taken c.take_piece.ensures.unchanged c.self.invariant.0 in
    (there.0, c.self.invariant.1, c.self.invariant.2 ∙ there.1, c.self.invariant.3 ∙ ap g.B.ServerName.slots there.1)
