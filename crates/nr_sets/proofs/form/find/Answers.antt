use Rattle.std.proofs.Common.{◌∙◌, ap, is_some}
use Rattle.nr_sets.proofs.Large.{get_large}
use Rattle.nr_sets.proofs.form.find.Goals as goal

pub returns : goal.returns
returns c = c.contains.ensures ∙ ap is_some (get_large c.args.members.now c.args.member.now)
