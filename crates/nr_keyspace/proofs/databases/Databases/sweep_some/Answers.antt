use Rattle.std.proofs.Common.{ℕ, ◌<◌, length, set, ap, ◌∙◌, subst, arith}
use Rattle.nr_model.specs.Keyspace as model
use Rattle.nr_keyspace.specs.Joined.{joined}
use Rattle.nr_keyspace.specs.Swept.{IsSweptAt}
use Rattle.nr_keyspace.proofs.Joined.{live_in}
use Rattle.nr_keyspace.proofs.Swept.{swept_at}
use Rattle.nr_keyspace.proofs.databases.Databases.sweep_some.Goals as goal

pub returns-clause-same_live : goal.returns-clause-same_live
returns-clause-same_live c =
    let below : c.index.result < length c.self.inside.databases.items = omega arith in
    live_in c.args.now c.self.inside.databases.items c.index.result c.index_mut.result.now c.sweep_some.new.self c.index_mut.ensures.value below
    c.sweep_some.ensures.same_live
    ∙ ap (λ keyspace. model.live keyspace c.args.now) c.self.view_is

pub returns-clause-swept : goal.returns-clause-swept
returns-clause-swept c =
    let below : c.index.result < length c.self.inside.databases.items = omega arith in
    let after = set c.self.inside.databases.items c.index.result c.sweep_some.new.self in
    subst (λ (database : ℕ). IsSweptAt c.args.now database c.sweep_some.result c.args.self.now (joined after)) c.index.ensures.value
    (subst (λ (keyspace : model.Keyspace). IsSweptAt c.args.now c.index.result c.sweep_some.result keyspace (joined after)) c.self.view_is
    (swept_at c.args.now c.sweep_some.result c.self.inside.databases.items c.index.result c.index_mut.result.now c.sweep_some.new.self
    c.index_mut.ensures.value below c.sweep_some.ensures.few c.sweep_some.ensures.taken c.sweep_some.ensures.all))
