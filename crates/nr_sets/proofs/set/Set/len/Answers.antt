use Rattle.std.proofs.Common.{◌∙◌, ap, sym}
use Rattle.std.specs.FinSet as set
use Rattle.nr_sets.specs.Forms.{entries_of}
use Rattle.nr_sets.proofs.Seen.{counted_seen}
use Rattle.nr_sets.proofs.set.Set.len.Goals as goal

pub returns-clause-len : goal.returns-clause-len
returns-clause-len c = c.len.ensures.len ∙ sym (counted_seen (entries_of c.self.inside.form) c.self.invariant.ordered) ∙ ap (λ s. set.len s) c.self.view_is
