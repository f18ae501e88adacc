use Rattle.std.proofs.Common.{◌<◌, length, set, Option, ap, ◌∙◌, sym, arith}
use Rattle.std.specs.Option.{option_map}
use Rattle.std.specs.FinMap as map
use Rattle.nr_model.specs.Keyspace as model
use Rattle.nr_keyspace.specs.Joined.{joined, key_of}
use Rattle.nr_keyspace.proofs.Changes.{some_then}
use Rattle.nr_keyspace.proofs.Joined.{get-live_at, removed}
use Rattle.nr_keyspace.proofs.databases.Databases.remove.Goals as goal

pub returns-clause-value : goal.returns-clause-value
returns-clause-value c =
    let below : c.index.result < length c.self.inside.databases.items = omega arith in
    let stored = λ (o : Option model.Stored). option_map (λ (s : model.Stored). s.value) o in
    c.remove.ensures.value
    ∙ ap stored (sym (get-live_at c.self.inside.databases.items c.args.now c.index.result c.index_mut.result.now c.args.name.now
    c.index_mut.ensures.value below)
    ∙ ap (λ keyspace. map.get (model.live keyspace c.args.now) (key_of c.index.result c.args.name.now)) c.self.view_is
    ∙ ap (λ database. map.get (model.live c.args.self.now c.args.now) (key_of database c.args.name.now)) c.index.ensures.value)

pub returns-clause-removed : goal.returns-clause-removed
returns-clause-removed c =
    let below : c.index.result < length c.self.inside.databases.items = omega arith in
    some_then c.remove.result c.remove.ensures.removed (λ is.
    ap (λ store. joined (set c.self.inside.databases.items c.index.result store)) is
    ∙ removed c.self.inside.databases.items c.index.result c.index_mut.result.now c.args.name.now c.index_mut.ensures.value below
    ∙ ap (λ keyspace. map.remove keyspace (key_of c.index.result c.args.name.now)) c.self.view_is
    ∙ ap (λ database. map.remove c.args.self.now (key_of database c.args.name.now)) c.index.ensures.value)
