use Rattle.std.proofs.Common.{ap, ◌∙◌}
use Rattle.nr_combiner.proofs.Handed.{handed_down, turned_down}
use Rattle.nr_combiner.proofs.Rounds.{further_node}
use Rattle.nr_combiner.proofs.combiner.Combiner.turn_lifted.Goals as goal

pub returns-clause-turned : goal.returns-clause-turned
returns-clause-turned g c = λ which before has_lifted. record {
  combined = c.combine_lifted-combined.new.self;
  has_combined = c.combine_lifted-combined.ensures.combined which c.args.worker before has_lifted;
  handed = c.collect_pieces-told.ensures.handed;
}

pub returns-clause-down : goal.returns-clause-down
returns-clause-down g c =
    let told = c.collect_pieces-told.result in
    turned_down c.combine_lifted-combined.result.round c.combine_lifted-combined.new.self c.collect_pieces-told.new.self c.combine_lifted-combined.ensures.down
    (handed_down c.args.worker c.args.most c.args.taken.now.items c.collect_pieces-told.new.taken.items told.collected.result told.token.standing told.note
    c.combine_lifted-combined.new.self c.collect_pieces-told.new.self c.collect_pieces-told.ensures.handed)

pub returns-clause-node : goal.returns-clause-node
returns-clause-node g c =
    c.collect_pieces-told.ensures.node
    ∙ further_node g.B.LogName.places c.combine_lifted-combined.result.round c.combine_lifted-combined.result.is_behind c.args.self.now c.combine_lifted-combined.new.self
    c.combine_lifted-combined.ensures.combined

pub returns-clause-named : goal.returns-clause-named
returns-clause-named g c =
    c.collect_pieces-told.ensures.named
    ∙ ap g.B.ServerName.slots (further_node g.B.LogName.places c.combine_lifted-combined.result.round c.combine_lifted-combined.result.is_behind c.args.self.now
    c.combine_lifted-combined.new.self c.combine_lifted-combined.ensures.combined)
