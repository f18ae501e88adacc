use Rattle.std.proofs.Common.{◌∙◌}
use Rattle.nr_hashes.proofs.Large.{get_large}
use Rattle.nr_hashes.proofs.form.find.Goals as goal

pub returns : goal.returns
returns c = c.get.ensures ∙ get_large c.args.pairs.now c.args.field.now
