use Rattle.nr_model.specs.Keyspace.{key_of}
use Rattle.nr_ranked.proofs.Edits.{made}
use Rattle.nr_ranked.proofs.edited.make_at.Goals as goal

pub returns-clause-ok : goal.returns-clause-ok
returns-clause-ok g c =
    made (g.E.SortedSetEdit.edits c.args.edit) c.args.keyspace.now c.put.new.keyspace (key_of c.args.database c.args.name.now) c.empty_sorted_set-zset.result c.edit.new.zset c.in_ok-edit.field-0
    c.in_ok-given.given c.empty_sorted_set-zset.ensures c.in_ok-given.was c.in_ok-edit.ensures.ok c.in_ok-put.ensures
