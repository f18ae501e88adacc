use Rattle.nr_keyspace.specs.Stores.{bytes_of, store_of}
use Rattle.nr_keyspace.proofs.Edited.{edited_indexed}
use Rattle.nr_keyspace.proofs.database.Database.edit.Goals as goal

pub invariant_of-self : goal.invariant_of-self
invariant_of-self g c =
    edited_indexed (g.E.Edit.edits c.args.edit) c.edit_at.result (store_of bytes_of c.self.inside.by_name.entries)
    (store_of bytes_of c.edit_at.new.by_name.entries) c.self.inside.deadlines c.args.name.now c.args.now c.self.invariant
    c.edit_at.ensures.ok c.edit_at.ensures.err
