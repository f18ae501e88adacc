use Rattle.std.proofs.Common.{ap, ◌∙◌}
use Rattle.std.specs.FinMap as map
use Rattle.nr_keyspace.specs.Joined.{exchanged}
use Rattle.nr_keyspace.proofs.Joined.{exchanged_in}
use Rattle.nr_keyspace.proofs.databases.Databases.swap.Goals as goal

pub returns : goal.returns
returns c = λ key.
    exchanged_in c.index.result c.index-2.result c.self.inside.databases.items c.swap.new.self.items c.swap.ensures.by_index key
    ∙ ap (λ keyspace. map.get keyspace (exchanged c.index.result c.index-2.result key)) c.self.view_is
    ∙ ap (λ a. map.get c.args.self.now (exchanged a c.index-2.result key)) c.index.ensures.value
    ∙ ap (λ b. map.get c.args.self.now (exchanged c.args.a b key)) c.index-2.ensures.value
