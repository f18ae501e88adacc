use Rattle.std.proofs.Common.{Option, ap, ◌∙◌, sym}
use Rattle.std.specs.FinMap as map
use Rattle.nr_model.specs.Keyspace as model
use Rattle.nr_keyspace.specs.Joined.{key_of}
use Rattle.nr_keyspace.specs.Seen.{seen_after}
use Rattle.nr_keyspace.specs.Stores.{redated}
use Rattle.nr_keyspace.proofs.Changes.{ok_then}
use Rattle.nr_keyspace.proofs.Seen.{seen_redated}
use Rattle.nr_keyspace.proofs.keyspace.Keyspace.set_deadline.Goals as goal

pub returns-clause-ok : goal.returns-clause-ok
returns-clause-ok c =
    let settle = c.settle in
    let key = key_of c.args.database c.args.name.now in
    let found = map.get (model.live settle.new.databases c.later-now.result) key in
    let view = settle.ensures.same ∙ c.self.view_is in
    ok_then c.set_deadline.result c.set_deadline.ensures.ok (λ is.
    ap (seen_after settle.new.self.latest) is ∙ seen_redated settle.new.self.latest settle.new.databases key found c.args.deadline settle.ensures.seen
    ∙ ap (λ keyspace. redated keyspace key found c.args.deadline) view
    ∙ ap (λ (o : Option model.Stored). redated c.args.self.now key o c.args.deadline)
    (sym (ap (λ keyspace. map.get keyspace key) (c.later-now.ensures settle.new.databases)) ∙ ap (λ keyspace. map.get (model.live keyspace c.args.now) key) view))
