use Rattle.std.proofs.Common.{sym, ◌<◌, length, set, ap, ◌∙◌, arith}
use Rattle.std.specs.FinMap as map
use Rattle.nr_keyspace.specs.Stores.{is_undated, written_if}
use Rattle.nr_keyspace.specs.Joined.{joined, key_of}
use Rattle.nr_keyspace.proofs.Edited.{if_ok_then}
use Rattle.nr_keyspace.proofs.Joined.{written_in, get-at}
use Rattle.nr_keyspace.proofs.databases.Databases.write_text.Goals as goal

pub returns-clause-exact : goal.returns-clause-exact
returns-clause-exact c =
    let below : c.index.result < length c.self.inside.databases.items = omega arith in
    if_ok_then c.write_text.result c.write_text.ensures.exact (λ written is.
    is ∙ ap is_undated
    (sym (get-at c.self.inside.databases.items c.index.result c.index_mut.result.now c.args.name.now c.index_mut.ensures.value below)
    ∙ ap (λ keyspace. map.get keyspace (key_of c.index.result c.args.name.now)) c.self.view_is
    ∙ ap (λ database. map.get c.args.self.now (key_of database c.args.name.now)) c.index.ensures.value))

pub returns-clause-ok : goal.returns-clause-ok
returns-clause-ok c =
    let below : c.index.result < length c.self.inside.databases.items = omega arith in
    if_ok_then c.write_text.result c.write_text.ensures.ok (λ written is.
    ap (λ store. joined (set c.self.inside.databases.items c.index.result store)) is
    ∙ written_in c.self.inside.databases.items c.index.result c.index_mut.result.now c.args.name.now c.args.text.now written c.index_mut.ensures.value below
    ∙ ap (λ keyspace. written_if written keyspace (key_of c.index.result c.args.name.now) c.args.text.now) c.self.view_is
    ∙ ap (λ database. written_if written c.args.self.now (key_of database c.args.name.now) c.args.text.now) c.index.ensures.value)
