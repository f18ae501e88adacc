use Rattle.std.proofs.Common.{ℕ, ◌<◌, length, set, ap, ◌∙◌, sym, arith}
use Rattle.std.specs.FinMap as map
use Rattle.nr_model.specs.Keyspace as model
use Rattle.nr_model.specs.Keyspace.{only_live}
use Rattle.nr_keyspace.specs.Joined.{joined, key_of}
use Rattle.nr_keyspace.proofs.Edited.{if_ok_then, edited_in, edited_as}
use Rattle.nr_keyspace.proofs.Joined.{get-live_at}
use Rattle.nr_keyspace.proofs.databases.Databases.edit.Goals as goal

pub returns-clause-ok : goal.returns-clause-ok
returns-clause-ok g c =
    let below : c.index.result < length c.self.inside.databases.items = omega arith in
    let stores = c.self.inside.databases.items in
    let store = c.index_mut.result.now in
    let edits = g.E.Edit.edits c.args.edit in
    let new = joined (set stores c.index.result c.edit.new.self) in
    let found = only_live c.args.now (map.get store c.args.name.now) in
    let key = λ (database : ℕ). key_of database c.args.name.now in
    let seen = sym (get-live_at stores c.args.now c.index.result store c.args.name.now c.index_mut.ensures.value below)
    ∙ ap (λ keyspace. map.get (model.live keyspace c.args.now) (key c.index.result)) c.self.view_is
    ∙ ap (λ database. map.get (model.live c.args.self.now c.args.now) (key database)) c.index.ensures.value in
    if_ok_then c.edit.result c.edit.ensures.ok (λ given edit.
    edited_as edits (joined stores) c.args.self.now new (key c.index.result) (key c.args.database) found
    (map.get (model.live c.args.self.now c.args.now) (key c.args.database)) given c.self.view_is (ap key c.index.ensures.value) seen
    (edited_in edits stores c.index.result store c.edit.new.self c.args.name.now found given c.index_mut.ensures.value below edit))
