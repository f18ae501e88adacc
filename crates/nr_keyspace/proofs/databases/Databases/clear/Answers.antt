use Rattle.std.proofs.Common.{ℕ, ◌<◌, None, cond, eqb, length, set, ap, ◌∙◌, arith}
use Rattle.std.specs.FinMap as map
use Rattle.nr_keyspace.specs.Joined.{joined}
use Rattle.nr_keyspace.proofs.Joined.{cleared}
use Rattle.nr_keyspace.proofs.databases.Databases.clear.Goals as goal

pub returns : goal.returns
returns c = λ key.
    let below : c.index.result < length c.self.inside.databases.items = omega arith in
    ap (λ store. map.get (joined (set c.self.inside.databases.items c.index.result store)) key) c.clear.ensures
    ∙ cleared c.self.inside.databases.items c.index.result key below
    ∙ ap (λ keyspace. cond (eqb key.database c.index.result) None (map.get keyspace key)) c.self.view_is
    ∙ ap (λ (database : ℕ). cond (eqb key.database database) None (map.get c.args.self.now key)) c.index.ensures.value
