use Rattle.std.proofs.Common.{rules, ◌≡◌, ap, ◌∙◌, subst}
use Rattle.nr_combiner.specs.Served.{StandsLevel}
use Rattle.nr_combiner.proofs.Handed.{collects_added, collects_behind, collects_executed, collects_own}
use Rattle.nr_combiner.proofs.node.Node.collect_pieces.Goals as goal

pub returns-clause-handed : goal.returns-clause-handed
returns-clause-handed g c =
    let before : c.deref-2.result.now ≡ c.deref_mut.result.now = search rules in
    let after : c.deref-3.result.now ≡ c.collect_pieces-told.new.self = search rules in
    collects_behind _ _ _ _ _ _ _ _ _ _ _ c.collect_pieces-told.ensures.handed (search rules) c.collect_pieces-told.ensures.node c.collect_pieces-told.ensures.down c.collect_pieces-told.ensures.answered
    c.collect_pieces-told.ensures.since c.collect_pieces-told.ensures.served (subst StandsLevel before c.level.ensures.level) (subst StandsLevel after c.level-2.ensures.level)
    (search rules)

pub returns-clause-added : goal.returns-clause-added
returns-clause-added g c = collects_added _ _ _ _ _ _ _ _ _ (returns-clause-handed g c)

pub returns-clause-executed : goal.returns-clause-executed
returns-clause-executed g c = collects_executed _ _ _ _ _ _ _ _ _ (returns-clause-handed g c)

pub returns-clause-sound : goal.returns-clause-sound
returns-clause-sound g c = (c.collect_pieces-told.ensures.sound, (returns-clause-handed g c).standing)

pub returns-clause-named : goal.returns-clause-named
returns-clause-named g c =
    let is : c.deref_mut.result.now.node.book.node ≡ c.args.self.now.node = search rules in
    c.collect_pieces-told.ensures.named ∙ ap g.B.ServerName.slots is

pub returns-clause-own : goal.returns-clause-own
returns-clause-own g c = collects_own _ _ _ _ _ _ _ _ _ (returns-clause-handed g c)
