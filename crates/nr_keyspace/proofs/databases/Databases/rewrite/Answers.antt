use Rattle.std.proofs.Common.{not, sym, ◌<◌, None, length, set, ap, ◌∙◌, arith}
use Rattle.std.specs.FinMap as map
use Rattle.nr_model.specs.Keyspace as model
use Rattle.nr_keyspace.specs.Values.{value_of}
use Rattle.nr_keyspace.specs.Stores.{is_undated}
use Rattle.nr_keyspace.specs.Joined.{joined, key_of}
use Rattle.nr_keyspace.proofs.Changes.{none_then}
use Rattle.nr_keyspace.proofs.Joined.{inserted, get-at}
use Rattle.nr_keyspace.proofs.databases.Databases.rewrite.Goals as goal

pub returns-clause-written : goal.returns-clause-written
returns-clause-written c =
    let below : c.index.result < length c.self.inside.databases.items = omega arith in
    let stored : model.Stored = record { value = value_of c.args.value; deadline = None } in
    none_then c.rewrite.result c.rewrite.ensures.written (λ is.
    ap (λ store. joined (set c.self.inside.databases.items c.index.result store)) is
    ∙ inserted c.self.inside.databases.items c.index.result c.index_mut.result.now c.args.name.now stored c.index_mut.ensures.value below
    ∙ ap (λ keyspace. map.insert keyspace (key_of c.index.result c.args.name.now) stored) c.self.view_is
    ∙ ap (λ database. map.insert c.args.self.now (key_of database c.args.name.now) stored) c.index.ensures.value)

pub returns-clause-exact : goal.returns-clause-exact
returns-clause-exact c =
    let below : c.index.result < length c.self.inside.databases.items = omega arith in
    c.rewrite.ensures.exact
    ∙ ap (λ o. not (is_undated o))
    (sym (get-at c.self.inside.databases.items c.index.result c.index_mut.result.now c.args.name.now c.index_mut.ensures.value below)
    ∙ ap (λ keyspace. map.get keyspace (key_of c.index.result c.args.name.now)) c.self.view_is
    ∙ ap (λ database. map.get c.args.self.now (key_of database c.args.name.now)) c.index.ensures.value)
