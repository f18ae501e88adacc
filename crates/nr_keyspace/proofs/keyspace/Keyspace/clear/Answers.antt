use Rattle.std.proofs.Common.{None, cond, eqb, ap, ◌∙◌}
use Rattle.std.specs.FinMap as map
use Rattle.nr_keyspace.proofs.Seen.{seen_cleared}
use Rattle.nr_keyspace.proofs.keyspace.Keyspace.clear.Goals as goal

pub returns : goal.returns
returns c = λ key.
    seen_cleared c.self.inside.sweeps.latest c.self.inside.databases c.clear.new.self key (eqb key.database c.args.database) (c.clear.ensures key)
    ∙ ap (λ keyspace. cond (eqb key.database c.args.database) None (map.get keyspace key)) c.self.view_is
