use Rattle.std.proofs.Common.{◌∙◌, ap, sym, length}
use Rattle.std.specs.FinSet as set
use Rattle.std.specs.Map.{keys_of}
use Rattle.nr_model.specs.Sets.{listed}
use Rattle.nr_sets.specs.Forms.{entries_of}
use Rattle.nr_sets.proofs.Seen.{listed_seen, len_seen}
use Rattle.nr_sets.proofs.set.Set.members.Goals as goal

pub returns-clause-members : goal.returns-clause-members
returns-clause-members c = c.in_ok-members.ensures ∙ listed_seen (keys_of (entries_of c.self.inside.form)) c.self.invariant.ordered ∙ ap (λ s. listed s) c.self.view_is

pub returns-clause-len : goal.returns-clause-len
returns-clause-len c =
    ap length c.in_ok-members.ensures ∙ sym (len_seen (keys_of (entries_of c.self.inside.form)) c.self.invariant.ordered) ∙ ap (λ s. set.len s) c.self.view_is
