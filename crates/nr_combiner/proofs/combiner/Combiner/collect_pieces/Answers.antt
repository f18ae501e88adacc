use Rattle.std.proofs.Common.{ap, sym, ◌∙◌, subst}
use Rattle.nr_replica.specs.Replicas.{ReplicaState}
use Rattle.nr_slots.specs.Seats.{note_of}
use Rattle.nr_node.specs.Level.{workers_of}
use Rattle.nr_combiner.specs.Served.{CombinerState}
use Rattle.nr_combiner.specs.Turned.{HandsOutTo}
use Rattle.nr_combiner.proofs.Handed.{collected_node}
use Rattle.nr_combiner.proofs.combiner.Combiner.collect_pieces.Goals as goal

pub returns-clause-handed : goal.returns-clause-handed
returns-clause-handed g c =
    let still = c.keep-token.ensures.still in
    subst (λ (d : CombinerState). HandsOutTo c.args.worker c.args.most c.args.taken.now.items c.collect-result.new.taken.items c.collect-result.result
    c.keep-token.result.0.standing c.keep-token.result.1 c.args.self.now d) (sym c.take_cut-has_cut.ensures) (record {
      collected = c.collect-result.new.self;
      has_collected = c.collect-result.ensures;
      still = still.0;
      seat = still.1;
      counts = still.2;
      token = c.keep-token.ensures.token.0 ∙ sym still.0.standing;
      opened = ap (λ (r : ReplicaState). workers_of r.members) still.0.replica ∙ c.keep-token.ensures.opened;
      note_is = c.keep-token.ensures.note.0 ∙ ap note_of (sym still.1);
    })

pub returns-clause-node : goal.returns-clause-node
returns-clause-node g c =
    c.keep-token.ensures.token.2
    ∙ (collected_node c.args.worker c.args.most c.args.taken.now.items c.collect-result.new.taken.items c.collect-result.result c.args.self.now c.collect-result.new.self
    c.collect-result.ensures).0

pub returns-clause-named : goal.returns-clause-named
returns-clause-named g c =
    c.keep-token.ensures.note.1
    ∙ ap g.B.ServerName.slots (collected_node c.args.worker c.args.most c.args.taken.now.items c.collect-result.new.taken.items c.collect-result.result c.args.self.now
    c.collect-result.new.self c.collect-result.ensures).0
