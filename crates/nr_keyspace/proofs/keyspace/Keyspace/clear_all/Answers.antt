use Rattle.std.proofs.Common.{ap, ◌∙◌}
use Rattle.nr_keyspace.specs.Seen.{seen_after}
use Rattle.nr_keyspace.proofs.Seen.{seen_empty}
use Rattle.nr_keyspace.proofs.keyspace.Keyspace.clear_all.Goals as goal

pub returns : goal.returns
returns c = ap (seen_after c.self.inside.sweeps.latest) c.clear_all.ensures ∙ seen_empty c.self.inside.sweeps.latest
