use Rattle.std.proofs.Common.{ap, ◌∙◌}
use Rattle.std.specs.FinMap as map
use Rattle.nr_keyspace.specs.Joined.{key_of}
use Rattle.nr_keyspace.specs.Seen.{seen_after}
use Rattle.nr_keyspace.proofs.Changes.{some_then}
use Rattle.nr_keyspace.proofs.Seen.{seen_remove}
use Rattle.nr_keyspace.proofs.keyspace.Keyspace.remove.Goals as goal

pub returns-clause-removed : goal.returns-clause-removed
returns-clause-removed c =
    let key = key_of c.args.database c.args.name.now in
    some_then c.remove.result c.remove.ensures.removed (λ is.
    ap (seen_after c.self.inside.sweeps.latest) is ∙ seen_remove c.self.inside.sweeps.latest c.self.inside.databases key
    ∙ ap (λ keyspace. map.remove keyspace key) c.self.view_is)
