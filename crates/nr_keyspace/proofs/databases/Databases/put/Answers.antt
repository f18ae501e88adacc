use Rattle.std.proofs.Common.{◌<◌, length, set, ap, ◌∙◌, arith}
use Rattle.std.specs.FinMap as map
use Rattle.nr_model.specs.Keyspace as model
use Rattle.nr_keyspace.specs.Values.{value_of}
use Rattle.nr_keyspace.specs.Joined.{joined, key_of}
use Rattle.nr_keyspace.proofs.Changes.{ok_then}
use Rattle.nr_keyspace.proofs.Joined.{inserted}
use Rattle.nr_keyspace.proofs.databases.Databases.put.Goals as goal

pub returns-clause-ok : goal.returns-clause-ok
returns-clause-ok c =
    let below : c.index.result < length c.self.inside.databases.items = omega arith in
    let stored : model.Stored = record { value = value_of c.args.value; deadline = c.args.deadline } in
    ok_then c.put.result c.put.ensures.ok (λ is.
    ap (λ store. joined (set c.self.inside.databases.items c.index.result store)) is
    ∙ inserted c.self.inside.databases.items c.index.result c.index_mut.result.now c.args.name stored c.index_mut.ensures.value below
    ∙ ap (λ keyspace. map.insert keyspace (key_of c.index.result c.args.name) stored) c.self.view_is
    ∙ ap (λ database. map.insert c.args.self.now (key_of database c.args.name) stored) c.index.ensures.value)
