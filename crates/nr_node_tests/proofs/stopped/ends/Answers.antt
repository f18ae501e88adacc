use Rattle.std.proofs.Common.{◌≡◌, ℕ, ◌+◌, ◌<◌, length, slice_get, Some, ap, ◌∙◌, subst}
use Rattle.std.specs.Prelude.{IfOk}
use Rattle.nr_oplog.specs.Rule.{opening_view}
use Rattle.nr_node_tests.proofs.Seats.{one_and_two}
use Rattle.nr_node_tests.proofs.stopped.ends.Goals as goal

pub returns-clause-first : goal.returns-clause-first
returns-clause-first g c =
    let seats = subst (λ r. IfOk r (λ p. (length p.1.items ≡ g.B.LogName.nodes) × ((node : ℕ) → node < g.B.LogName.nodes → slice_get p.1.items node ≡ Some (opening_view g.B.LogName.nodes g.B.LogName.places node (node + 1))))) c.expect-log.ensures c.named.ensures.seats in
    c.new-2.ensures ∙ (one_and_two c.into_iter-seats.result.rest.items c.next.new.self.rest.items c.next-2.new.self.rest.items c.expect-log.result.1.items c.in-Some.of_first c.in-Some-next.of_second g.B.LogName.nodes (λ node. opening_view g.B.LogName.nodes g.B.LogName.places node (node + 1))
    c.into_iter-seats.ensures.rest seats.0 seats.1 c.in-Some.ensures.items c.in-Some-next.ensures.items).0
    ∙ ap (λ (nodes : ℕ). opening_view nodes g.B.LogName.places 0 1) c.requires.nodes

pub returns-clause-second : goal.returns-clause-second
returns-clause-second g c =
    let seats = subst (λ r. IfOk r (λ p. (length p.1.items ≡ g.B.LogName.nodes) × ((node : ℕ) → node < g.B.LogName.nodes → slice_get p.1.items node ≡ Some (opening_view g.B.LogName.nodes g.B.LogName.places node (node + 1))))) c.expect-log.ensures c.named.ensures.seats in
    c.new-3.ensures ∙ (one_and_two c.into_iter-seats.result.rest.items c.next.new.self.rest.items c.next-2.new.self.rest.items c.expect-log.result.1.items c.in-Some.of_first c.in-Some-next.of_second g.B.LogName.nodes (λ node. opening_view g.B.LogName.nodes g.B.LogName.places node (node + 1))
    c.into_iter-seats.ensures.rest seats.0 seats.1 c.in-Some.ensures.items c.in-Some-next.ensures.items).1
