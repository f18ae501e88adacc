use Rattle.std.proofs.Common.{ℕ, ap, sym, subst}
use Rattle.std.specs.Arc.{arc_value}
use Rattle.atomic_table.specs.Seated.{TableId}
use Rattle.nr_entry.specs.Jobs.{connection_of}
use Rattle.nr_slots.specs.Seats.{WorkerView}
use Rattle.nr_node.specs.Sound.{ServesOpened}
use Rattle.nr_combiner.specs.Behind.{OpensBehind}
use Rattle.nr_combiner.specs.Heard.{KnowsOpened}
use Rattle.nr_combiner.specs.Shared.{NodeView}
use Rattle.nr_combiner.specs.Workers.{NodeHandleState, shared_of}
use Rattle.nr_combiner.proofs.Handed.{knows_by}
use Rattle.nr_combiner.proofs.node_handle.NodeHandle.open.Goals as goal

pub returns-clause-opened : goal.returns-clause-opened
returns-clause-opened g c =
    let told = c.in_ok-conn.field-0 in
    let inside = c.self.inside in
    let heard = c.in_ok-conn.ensures in
    let noted = c.hear.new.self.noted in
    subst (λ (w : NodeHandleState). KnowsOpened w.seat.worker told.conn noted told.token.standing w.seat.lane) c.self.view_is record {
      knows = knows_by told.token.standing inside.seat.lane told.note.desks inside.worker inside.seat.worker noted c.self.invariant.1 (ap (λ (v : WorkerView). v.noted) c.hear.ensures.heard)
          c.hear.ensures.told heard.executed heard.own;
      serves = subst (λ (k : ℕ). ServesOpened told.token.standing k (connection_of told.conn)) c.self.invariant.1 heard.serves;
    }

pub returns-clause-behind : goal.returns-clause-behind
returns-clause-behind g c =
    let told = c.in_ok-conn.field-0 in
    let inside = c.self.inside in
    let shared = arc_value inside.shared in
    let s = told.token.standing in
    let at : TableId → NodeView =
    λ id. record { node = shared.node; slots = record { id = id; workers = shared.slots.workers }; connections = shared.connections; limit = shared.limit } in (
      told.note,
      subst (λ (w : NodeHandleState). OpensBehind (shared_of w) w.seat.worker w.generation c.args.since told.conn s told.note) c.self.view_is
          (subst (λ (id : TableId). OpensBehind (at id) inside.seat.worker inside.generation c.args.since told.conn s told.note) (sym c.self.invariant.0)
          (subst (λ (k : ℕ). OpensBehind shared k inside.generation c.args.since told.conn s told.note) c.self.invariant.1
          (subst (λ (v : NodeView). OpensBehind v inside.worker inside.generation c.args.since told.conn s told.note) c.deref.ensures c.in_ok-conn.ensures.opened))),
    )
