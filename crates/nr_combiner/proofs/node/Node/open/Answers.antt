use Rattle.std.proofs.Common.{rules, ◌≡◌, ℕ, ap, ◌∙◌, subst}
use Rattle.nr_slots.specs.Seats.{note_of}
use Rattle.nr_combiner.specs.Served.{CombinerState, StandsLevel}
use Rattle.nr_combiner.specs.Shared.{NodeView}
use Rattle.nr_combiner.specs.Steps.{HasRoom, OpensFor}
use Rattle.nr_combiner.proofs.Handed.{kept_own}
use Rattle.nr_combiner.proofs.node.Node.open.Goals as goal

pub returns-clause-own : goal.returns-clause-own
returns-clause-own g c =
    let k = c.keep-token in
    let old = c.deref_mut-2.result.now in
    kept_own old.node k.new.self.node old.seat k.new.self.seat c.args.worker k.result.0.standing k.result.1 k.ensures.opened k.ensures.token.0 k.ensures.token.2
    k.ensures.note.0 k.ensures.still.0 k.ensures.still.1 k.ensures.served

pub returns-clause-opened : goal.returns-clause-opened
returns-clause-opened g c =
    let k = c.keep-token in
    let opened = c.in_ok-conn.ensures in
    let same : c.deref_mut-2.result.now ≡ c.open.new.self = search rules in
    let before : c.deref-3.result.now ≡ c.deref_mut.result.now = search rules in
    let after : c.deref-4.result.now ≡ c.open.new.self = search rules in
    record {
      before = c.deref_mut.result.now;
      after = c.open.new.self;
      has_opened = subst (λ (limit : ℕ). OpensFor limit c.args.worker c.deref_mut.result.now c.open.new.self) (ap (λ (v : NodeView). v.limit) c.self.view_is) opened.opened;
      room = subst (λ (most : ℕ). HasRoom c.args.worker most c.deref_mut.result.now) (ap (λ (v : NodeView). v.connections) c.self.view_is) opened.room.0;
      up = opened.room.1;
      since = search rules;
      met = search rules;
      node_is = search rules;
      conn_is = opened.conn;
      token = k.ensures.token.0 ∙ ap (λ (x : CombinerState). x.node.seat.standing) same;
      note_is = k.ensures.note.0 ∙ ap (λ (x : CombinerState). note_of x.seat) same;
      was_level = subst StandsLevel before c.level.ensures.level;
      is_level = subst StandsLevel after c.level-2.ensures.level;
    }
