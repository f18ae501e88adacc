use Rattle.std.proofs.Common.{◌∙◌, ap, sym}
use Rattle.std.specs.FinSet as set
use Rattle.nr_sets.specs.Forms.{entries_of}
use Rattle.nr_sets.proofs.Bare.{members_taken}
use Rattle.nr_sets.proofs.Seen.{contains_found, removed_seen}
use Rattle.nr_sets.proofs.set.Set.remove.Goals as goal

pub invariant_of-self : goal.invariant_of-self
invariant_of-self c = members_taken (entries_of c.self.inside.form) (entries_of c.remove.new.self) c.args.member.now c.self.invariant c.remove.ensures.removed

pub returns-clause-there : goal.returns-clause-there
returns-clause-there c =
    c.remove.ensures.there ∙ sym (contains_found (entries_of c.self.inside.form) c.args.member.now) ∙ ap (λ s. set.contains s c.args.member.now) c.self.view_is

pub returns-clause-removed : goal.returns-clause-removed
returns-clause-removed c =
    removed_seen (entries_of c.self.inside.form) (entries_of c.remove.new.self) c.args.member.now c.self.invariant.ordered c.remove.ensures.removed
    ∙ ap (λ s. set.remove s c.args.member.now) c.self.view_is
