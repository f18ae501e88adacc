use Rattle.std.proofs.Common.{◌<◌, length, Option, ap, ◌∙◌, sym, arith}
use Rattle.std.specs.Option.{option_map}
use Rattle.std.specs.FinMap as map
use Rattle.nr_model.specs.Keyspace as model
use Rattle.nr_keyspace.specs.Joined.{key_of}
use Rattle.nr_keyspace.proofs.Joined.{get-live_at}
use Rattle.nr_keyspace.proofs.databases.Databases.get.Goals as goal

pub returns : goal.returns
returns c =
    let below : c.index.result < length c.self.inside.databases.items = omega arith in
    let stored = λ (o : Option model.Stored). option_map (λ (s : model.Stored). s.value) o in
    c.get.ensures
    ∙ ap stored (sym (get-live_at c.self.inside.databases.items c.args.now c.index.result c.index-2.result.now c.args.name.now c.index-2.ensures below)
    ∙ ap (λ keyspace. map.get (model.live keyspace c.args.now) (key_of c.index.result c.args.name.now)) c.self.view_is
    ∙ ap (λ database. map.get (model.live c.args.self.now c.args.now) (key_of database c.args.name.now)) c.index.ensures.value)
