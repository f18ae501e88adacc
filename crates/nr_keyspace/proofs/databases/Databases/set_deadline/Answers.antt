use Rattle.std.proofs.Common.{◌≡◌, ◌<◌, length, set, Option, IfOk, is_some, ap, ◌∙◌, sym, subst, arith}
use Rattle.std.specs.FinMap as map
use Rattle.nr_model.specs.Keyspace as model
use Rattle.nr_model.specs.Keyspace.{only_live}
use Rattle.nr_keyspace.specs.Stores.{redated}
use Rattle.nr_keyspace.specs.Joined.{joined, key_of}
use Rattle.nr_keyspace.proofs.Changes.{ok_then}
use Rattle.nr_keyspace.proofs.Joined.{get-live_at, redated_at}
use Rattle.nr_keyspace.proofs.databases.Databases.set_deadline.Goals as goal

pub returns-clause-live : goal.returns-clause-live
returns-clause-live c =
    let below : c.index.result < length c.self.inside.databases.items = omega arith in
    let seen = sym (get-live_at c.self.inside.databases.items c.args.now c.index.result c.index_mut.result.now c.args.name.now c.index_mut.ensures.value below)
    ∙ ap (λ keyspace. map.get (model.live keyspace c.args.now) (key_of c.index.result c.args.name.now)) c.self.view_is
    ∙ ap (λ database. map.get (model.live c.args.self.now c.args.now) (key_of database c.args.name.now)) c.index.ensures.value in
    subst (λ (o : Option model.Stored). IfOk c.set_deadline.result (λ was_live. was_live ≡ is_some o)) seen c.set_deadline.ensures.live

pub returns-clause-ok : goal.returns-clause-ok
returns-clause-ok c =
    let below : c.index.result < length c.self.inside.databases.items = omega arith in
    let seen = sym (get-live_at c.self.inside.databases.items c.args.now c.index.result c.index_mut.result.now c.args.name.now c.index_mut.ensures.value below)
    ∙ ap (λ keyspace. map.get (model.live keyspace c.args.now) (key_of c.index.result c.args.name.now)) c.self.view_is
    ∙ ap (λ database. map.get (model.live c.args.self.now c.args.now) (key_of database c.args.name.now)) c.index.ensures.value in
    ok_then c.set_deadline.result c.set_deadline.ensures.ok (λ is.
    ap (λ store. joined (set c.self.inside.databases.items c.index.result store)) is
    ∙ redated_at c.self.inside.databases.items c.index.result c.index_mut.result.now c.args.name.now
    (only_live c.args.now (map.get c.index_mut.result.now c.args.name.now)) c.args.deadline c.index_mut.ensures.value below
    ∙ ap (λ keyspace. redated keyspace (key_of c.index.result c.args.name.now)
    (only_live c.args.now (map.get c.index_mut.result.now c.args.name.now)) c.args.deadline) c.self.view_is
    ∙ ap (λ database. redated c.args.self.now (key_of database c.args.name.now)
    (only_live c.args.now (map.get c.index_mut.result.now c.args.name.now)) c.args.deadline) c.index.ensures.value
    ∙ ap (λ (o : Option model.Stored). redated c.args.self.now (key_of c.args.database c.args.name.now) o c.args.deadline) seen)
