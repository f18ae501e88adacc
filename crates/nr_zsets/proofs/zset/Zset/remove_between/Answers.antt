use Rattle.std.proofs.Common.{ap, ◌∙◌}
use Rattle.std.specs.Prelude.{fold}
use Rattle.std.specs.FinMap as finmap
use Rattle.nr_model.specs.SortedSets.{ranked, between}
use Rattle.nr_zbounds.specs.Ranges.{seen_bounds}
use Rattle.nr_zsets.proofs.Moves.{all_removed}
use Rattle.nr_zsets.proofs.zset.Zset.remove_between.Goals as goal

pub returns-clause-removed : goal.returns-clause-removed
returns-clause-removed c =
    c.remove_each.ensures.removed ∙ ap (fold finmap.remove c.args.self.now) (c.deref.ensures.value ∙ c.in_ok-members.ensures)
    ∙ all_removed (between (seen_bounds c.args.bounds.now) (ranked c.args.self.now)) c.args.self.now
