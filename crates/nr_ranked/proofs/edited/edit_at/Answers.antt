use Rattle.std.proofs.Common.{Some, ap, ◌∙◌}
use Rattle.nr_model.specs.Keyspace.{key_of, live}
use Rattle.nr_ranked.proofs.Edits.{held_there, held_from_missing}
use Rattle.nr_ranked.proofs.edited.edit_at.Goals as goal

pub returns-in_default-clause-ok : goal.returns-in_default-clause-ok
returns-in_default-clause-ok g c =
    let old = c.args.keyspace.now in
    held_from_missing (g.E.SortedSetEdit.edits c.args.edit) old c.edit_sorted_set.new.self c.make_at.new.keyspace (live old c.args.now) (key_of c.args.database c.args.name.now)
    c.in_ok-given.field-0 c.make_at.result c.requires c.in_default.is c.in_ok-given.ensures c.make_at.ensures.ok

pub returns-clause-ok : goal.returns-clause-ok
returns-clause-ok g c =
    let old = c.args.keyspace.now in
    held_there (g.E.SortedSetEdit.edits c.args.edit) old c.edit_sorted_set.new.self (live old c.args.now) (key_of c.args.database c.args.name.now) c.in_ok-given.field-0
    c.in_ok-given-2.field-0 c.requires (c.in-Some.is ∙ ap Some c.in_ok-given-2.was) c.in_ok-given.ensures
