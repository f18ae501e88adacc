use Rattle.std.proofs.Common.{ap, ◌∙◌}
use Rattle.std.specs.FinMap as map
use Rattle.nr_model.specs.Keyspace as model
use Rattle.nr_keyspace.specs.Joined.{key_of}
use Rattle.nr_keyspace.specs.Seen.{seen_after}
use Rattle.nr_keyspace.specs.Values.{value_of}
use Rattle.nr_keyspace.proofs.Changes.{ok_then}
use Rattle.nr_keyspace.proofs.Seen.{seen_insert}
use Rattle.nr_keyspace.proofs.keyspace.Keyspace.put.Goals as goal

pub returns-clause-ok : goal.returns-clause-ok
returns-clause-ok c =
    let settle = c.settle in
    let key = key_of c.args.database c.args.name in
    let stored : model.Stored = record { value = value_of c.args.value; deadline = c.args.deadline } in
    ok_then c.put.result c.put.ensures.ok (λ is.
    ap (seen_after settle.new.self.latest) is ∙ seen_insert settle.new.self.latest settle.new.databases key stored settle.ensures.seen
    ∙ ap (λ keyspace. map.insert keyspace key stored) (settle.ensures.same ∙ c.self.view_is))
