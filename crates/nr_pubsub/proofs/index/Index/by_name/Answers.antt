use Rattle.std.proofs.Common.{◌∙◌, ap, sym}
use Rattle.std.specs.FinMap as finmap
use Rattle.nr_pubsub.proofs.Indexed.{entries-standing}
use Rattle.nr_pubsub.proofs.index.Index.by_name.Goals as goal

pub returns : goal.returns
returns c = sym (entries-standing c.self.inside.by_name.entries c.self.invariant.names) ∙ ap finmap.entries c.self.view_is
