use Rattle.std.proofs.Common.{◌≡◌, ℕ, ◌+◌, ◌<◌, length, subst, sym, arith}
use Rattle.nr_oplog.specs.Rule.{opening_view}
use Rattle.nr_log_tests.proofs.Popped.{popped, moved, last_is, fewer}
use Rattle.nr_log_tests.proofs.nodes.ends.Goals as goal

pub loop-seat-preserved : goal.loop-seat-preserved
loop-seat-preserved g c =
    let i = c.loop-seat.invariant in (
      moved c.loop-seat.seats.items c.pop.new.self.items c.pop.result c.in-Some.seat c.loop-seat.all.items c.push.new.self.items c.ready.result g.B.LogName.nodes c.pop.ensures.items c.in-Some.is c.in_ok-push.ensures.items i.0,
      i.1,
      popped c.loop-seat.seats.items c.pop.new.self.items c.pop.result (λ node. opening_view g.B.LogName.nodes g.B.LogName.places node (node + 1)) c.pop.ensures.items i.2,
    )

pub ready-requires : goal.ready-requires
ready-requires g c =
    let i = c.loop-seat.invariant in
    let at : c.len-node.result ≡ length c.pop.new.self.items = omega (arith, c.len-node.ensures, c.pop.new.self.ok.0) in
    let last = last_is c.loop-seat.seats.items c.pop.new.self.items c.pop.result c.in-Some.seat (λ node. opening_view g.B.LogName.nodes g.B.LogName.places node (node + 1)) c.pop.ensures.items c.in-Some.is i.2 in (
      subst (λ (n : ℕ). c.in-Some.seat ≡ opening_view g.B.LogName.nodes g.B.LogName.places n (n + 1)) (sym at) last,
      subst (λ (n : ℕ). n < g.B.LogName.nodes) (sym at) (fewer c.loop-seat.seats.items c.pop.new.self.items c.pop.result c.in-Some.seat c.loop-seat.all.items g.B.LogName.nodes c.pop.ensures.items c.in-Some.is i.0),
      i.1,
    )
