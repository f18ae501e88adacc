use Rattle.nr_model.specs.Keyspace.{key_of}
use Rattle.nr_members.proofs.HashesEdited.{made}
use Rattle.nr_members.proofs.hashes.edited.make_at.Goals as goal

pub returns-clause-ok : goal.returns-clause-ok
returns-clause-ok g c =
    made (g.E.HashEdit.edits c.args.edit) c.args.keyspace.now c.put.new.keyspace (key_of c.args.database c.args.name.now) c.new-hash.result c.edit.new.hash c.in_ok-edit.field-0
    c.in_ok-given.given c.new-hash.ensures c.in_ok-given.was c.in_ok-edit.ensures.ok c.in_ok-put.ensures
