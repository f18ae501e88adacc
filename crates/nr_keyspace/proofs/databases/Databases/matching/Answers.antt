use Rattle.std.proofs.Common.{◌≡◌, ◌<◌, List, length, map, IfOk, ap, ◌∙◌, sym, subst, arith}
use Rattle.std.specs.Prelude.{filter}
use Rattle.std.specs.Map.Iter.{deref}
use Rattle.nr_model.specs.Bytes.{Bytes}
use Rattle.nr_model.specs.Patterns.{matches}
use Rattle.nr_model.specs.Keyspace as model
use Rattle.nr_model.specs.Keyspace.{names_in}
use Rattle.nr_keyspace.proofs.Names.{names_at}
use Rattle.nr_keyspace.proofs.databases.Databases.matching.Goals as goal

pub returns : goal.returns
returns c =
    let below : c.index.result < length c.self.inside.databases.items = omega arith in
    let seen = sym (names_at c.self.inside.databases.items c.args.now c.index.result c.index-2.result.now c.index-2.ensures below)
    ∙ ap (λ keyspace. names_in (model.live keyspace c.args.now) c.index.result) c.self.view_is
    ∙ ap (λ database. names_in (model.live c.args.self.now c.args.now) database) c.index.ensures.value in
    subst (λ (all : List Bytes). IfOk c.matching.result (λ names. map deref names.items ≡ filter (matches c.args.pattern.now) all)) seen c.matching.ensures
