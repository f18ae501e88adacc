use Rattle.std.proofs.Common.{◌∙◌, ap}
use Rattle.nr_pubsub.specs.Indices.{standing, listed_in}
use Rattle.nr_pubsub.proofs.Listed.{entries_listed}
use Rattle.nr_pubsub.proofs.subs.Subs.by_name.Goals as goal

pub returns : goal.returns
returns c = c.by_name.ensures
    ∙ entries_listed c.self.inside.holders c.args.kind (standing c.args.kind c.self.inside.indices) (c.self.invariant.found c.args.kind)
    ∙ ap (λ m. listed_in m c.args.kind) c.self.view_is
