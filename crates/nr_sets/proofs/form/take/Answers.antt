use Rattle.std.proofs.Common.{◌∙◌, ap, is_some}
use Rattle.std.specs.FinMap as map
use Rattle.nr_sets.proofs.Large.{get_large, remove_large}
use Rattle.nr_sets.proofs.form.take.Goals as goal

pub returns-clause-there : goal.returns-clause-there
returns-clause-there c = c.remove.ensures.there ∙ ap is_some (get_large c.args.members.now c.args.member.now)

pub returns-clause-removed : goal.returns-clause-removed
returns-clause-removed c = ap (λ table. map.entries table) c.remove.ensures.removed ∙ remove_large c.args.members.now c.args.member.now
