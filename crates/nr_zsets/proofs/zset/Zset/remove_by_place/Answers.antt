use Rattle.std.proofs.Common.{◌-◌, ap, sym, ◌∙◌}
use Rattle.std.specs.Prelude.{fold}
use Rattle.std.specs.FinMap as finmap
use Rattle.nr_model.specs.SortedSets.{Scores, ranked}
use Rattle.nr_ordered.specs.Lists.{part}
use Rattle.nr_zsets.proofs.Moves.{all_removed, gone_part}
use Rattle.nr_zsets.proofs.zset.Zset.remove_by_place.Goals as goal

pub returns-clause-removed : goal.returns-clause-removed
returns-clause-removed c =
    c.remove_each.ensures.removed ∙ ap (fold finmap.remove c.args.self.now) (c.deref.ensures.value ∙ c.in_ok-members.ensures)
    ∙ all_removed (part c.args.from c.args.to (ranked c.args.self.now)) c.args.self.now

pub returns-clause-count : goal.returns-clause-count
returns-clause-count c =
    c.remove_each.ensures.gone ∙ ap (λ (m : Scores). finmap.len c.args.self.now - finmap.len m) (returns-clause-removed c)
    ∙ sym (gone_part c.args.from c.args.to c.args.self.now)
