use Rattle.std.proofs.Common.{◌∙◌, ap, sym}
use Rattle.std.specs.FinSet as set
use Rattle.nr_sets.specs.Forms.{entries_of}
use Rattle.nr_sets.proofs.Seen.{contains_found}
use Rattle.nr_sets.proofs.set.Set.contains.Goals as goal

pub returns : goal.returns
returns c = c.contains.ensures ∙ sym (contains_found (entries_of c.self.inside.form) c.args.member.now) ∙ ap (λ s. set.contains s c.args.member.now) c.self.view_is
