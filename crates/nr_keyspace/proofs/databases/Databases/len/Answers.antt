use Rattle.std.proofs.Common.{◌<◌, List, length, ap, ◌∙◌, sym, arith}
use Rattle.nr_model.specs.Bytes.{Bytes}
use Rattle.nr_model.specs.Keyspace as model
use Rattle.nr_model.specs.Keyspace.{names_in}
use Rattle.nr_keyspace.specs.Names.{live_store}
use Rattle.nr_keyspace.proofs.Names.{names_at, len_keys}
use Rattle.nr_keyspace.proofs.databases.Databases.len.Goals as goal

pub returns-clause-count : goal.returns-clause-count
returns-clause-count c =
    let below : c.index.result < length c.self.inside.databases.items = omega arith in
    let seen = sym (names_at c.self.inside.databases.items c.args.now c.index.result c.index-2.result.now c.index-2.ensures below)
    ∙ ap (λ keyspace. names_in (model.live keyspace c.args.now) c.index.result) c.self.view_is
    ∙ ap (λ database. names_in (model.live c.args.self.now c.args.now) database) c.index.ensures.value in
    c.len.ensures.count ∙ len_keys (live_store c.index-2.result.now c.args.now) ∙ ap (λ (names : List Bytes). length names) seen
