use Rattle.std.proofs.Common.{Some, ap, ◌∙◌}
use Rattle.nr_model.specs.Keyspace.{live, key_of}
use Rattle.nr_list_commands.proofs.Relisted.{relisted, live_relisted}
use Rattle.nr_list_commands.proofs.stored.edit_items.Goals as goal

pub returns-in_ok-given-in-Some-clause-live : goal.returns-in_ok-given-in-Some-clause-live
returns-in_ok-given-in-Some-clause-live g c =
    let old = c.args.keyspace.now in
    let key = key_of c.args.database c.args.name.now in
    let is = relisted (g.E.Relisting.edits c.args.edit) old c.edit_list.new.self key (live old c.args.now) c.in_ok-given.field-0 c.in_ok-given-in-Some.field-0
    c.requires (c.in-Some.is ∙ ap Some c.in_ok-given-in-Some.was) c.in_ok-given.ensures in
    live_relisted old c.edit_list.new.self c.args.now key is.left c.requires is.written
