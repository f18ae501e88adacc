use Rattle.std.proofs.Common.{rules, ◌≡◌, ℕ, refl, subst}
use Rattle.nr_oplog.specs.Seats.{IsBehind}
use Rattle.nr_oplog.proofs.Seating.{full_of_places, shares_still}
use Rattle.nr_oplog.proofs.seat.LogSeat.reserve.Goals as goal

pub claim-requires-clause-shares : goal.claim-requires-clause-shares
claim-requires-clause-shares g c = shares_still c.args.self.now c.tail-tail.new.self c.is_full.new.self c.tail-tail.ensures.looks c.is_full.ensures.view c.args.shares c.requires.shares

pub returns-then-is_full-clause-full : goal.returns-then-is_full-clause-full
returns-then-is_full-clause-full g c = let v = c.args.self.now in let t = c.tail-tail.new.self in let w = c.is_full.new.self in
    let nodes : t.standing.nodes ≡ v.standing.nodes = search rules in (
      refl,
      full_of_places v t w c.tail-tail.ensures.looks c.is_full.ensures.view g.B.LogName.places (subst (λ (q : ℕ × ℕ). IsBehind q.0 g.B.LogName.places q.1 t w) (λ i. (nodes i, c.tail-tail.ensures.tail i)) c.if-is_full.ensures.full),
    )
