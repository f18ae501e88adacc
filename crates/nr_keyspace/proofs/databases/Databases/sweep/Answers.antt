use Rattle.std.proofs.Common.{ap, ◌∙◌, arith}
use Rattle.std.proofs.lemmas.List.{with_items_is}
use Rattle.nr_model.specs.Keyspace as model
use Rattle.nr_keyspace.specs.Joined.{joined}
use Rattle.nr_keyspace.proofs.Joined.{swept}
use Rattle.nr_keyspace.proofs.databases.Databases.sweep.Goals as goal

pub returns : goal.returns
returns c =
    ap joined (with_items_is c.self.inside.databases c.sweep_each.new.databases (omega arith))
    ∙ swept c.args.now c.self.inside.databases.items c.sweep_each.new.databases (rw (← c.deref_mut.ensures.value) c.sweep_each.ensures)
    ∙ ap (λ keyspace. model.live keyspace c.args.now) c.self.view_is
