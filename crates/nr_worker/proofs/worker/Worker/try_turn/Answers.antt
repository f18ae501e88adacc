use Rattle.std.proofs.Common.{arith}
use Rattle.nr_combiner.specs.Turned.{tells_down}
use Rattle.nr_worker.proofs.Portioned.{told_kept, took_by, turned_by}
use Rattle.nr_worker.proofs.worker.Worker.try_turn.Goals as goal

pub returns-clause-turned : goal.returns-clause-turned
returns-clause-turned g c =
    turned_by c.args.self.now _ c.try_turn.new.self.seat.noted c.try_turn.new.self c.take_in.new.seats c.take_in.new.mark.standing c.args.most (tells_down c.in-Some.turned.combined)
    c.in-Some.token.standing c.self.inside.pieces.items c.try_turn.new.taken.items c.self.view_is c.self.invariant.1 c.in-Some.ensures.more
    c.in-Some.ensures.heard c.in-Some.ensures.sound c.take_in.ensures.adopted c.take_in.ensures.met c.take_in.ensures.accepts

pub returns-clause-took : goal.returns-clause-took
returns-clause-took g c =
    let behind = c.in-Some.ensures.turned in
    took_by _ c.args.lifts c.in-Some.turned c.args.self.now _ c.try_turn.new.self c.take_in.new.seats c.take_in.new.mark.standing c.args.most
    c.in-Some.token.standing behind.0 c.self.inside.pieces.items c.try_turn.new.taken.items c.self.view_is c.self.invariant.1 c.in-Some.ensures.counted behind.1
    c.take_in.ensures.adopted c.take_in.ensures.accepts

pub invariant_of-self-2 : goal.invariant_of-self-2
invariant_of-self-2 g c =
    let counted = c.take_in.ensures.count in
    let room = c.self.invariant.2 in (
      told_kept c.self.inside.batches _ c.try_turn.new.self c.take_in.new.seats c.take_in.new.mark.standing c.in-Some.token.standing c.self.invariant.0
          c.in-Some.ensures.more c.in-Some.ensures.sound.1 c.take_in.ensures.adopted,
      c.take_in.ensures.none,
      omega (arith, counted, room),
    )
