use Rattle.std.proofs.Common.{ap, ◌∙◌}
use Rattle.std.specs.FinMap as map
use Rattle.nr_keyspace.specs.Joined.{exchanged}
use Rattle.nr_keyspace.proofs.Seen.{seen_exchanged}
use Rattle.nr_keyspace.proofs.keyspace.Keyspace.swap.Goals as goal

pub returns : goal.returns
returns c = λ key.
    seen_exchanged c.self.inside.sweeps.latest c.self.inside.databases c.swap.new.self c.args.a c.args.b c.swap.ensures key
    ∙ ap (λ keyspace. map.get keyspace (exchanged c.args.a c.args.b key)) c.self.view_is
