use Rattle.std.proofs.Common.{rules, ◌≡◌, ap, ◌∙◌}
use Rattle.nr_combiner.proofs.Handed.{turned_added, turned_executed, turned_own, turns_behind}
use Rattle.nr_combiner.proofs.node.Node.turn_behind.Goals as goal

pub returns-clause-turned : goal.returns-clause-turned
returns-clause-turned g c =
    turns_behind _ _ _ _ _ _ _ _ _ _ _ _ _ c.turn-told.ensures.turned (search rules) c.turn-told.ensures.node c.turn-told.ensures.down c.turn-told.ensures.answered c.turn-told.ensures.since
    c.turn-told.ensures.served c.level.ensures.level c.level-2.ensures.level (search rules)

pub returns-clause-added : goal.returns-clause-added
returns-clause-added g c = turned_added _ _ _ _ _ _ _ _ _ _ _ (returns-clause-turned g c)

pub returns-clause-executed : goal.returns-clause-executed
returns-clause-executed g c = turned_executed _ _ _ _ _ _ _ _ _ _ _ (returns-clause-turned g c)

pub returns-clause-sound : goal.returns-clause-sound
returns-clause-sound g c = (c.turn-told.ensures.sound, (returns-clause-turned g c).standing)

pub returns-clause-named : goal.returns-clause-named
returns-clause-named g c =
    let is : c.args.combiner.now.node.book.node ≡ c.args.self.now.node = search rules in
    c.turn-told.ensures.named ∙ ap g.B.ServerName.slots is

pub returns-clause-own : goal.returns-clause-own
returns-clause-own g c = turned_own _ _ _ _ _ _ _ _ _ _ _ (returns-clause-turned g c)
