use Rattle.std.proofs.Common.{◌++◌}
use Rattle.nr_model.specs.Commands as table
use Rattle.nr_resp.proofs.Names.{named_here, named_there}
use Rattle.nr_resp.proofs.table.plain.Goals as goal

pub returns-in-Some : goal.returns-in-Some
returns-in-Some c =
    (named_here table.strings_looks_served (table.strings_changes_served ++ table.keys_looks_served ++ table.keys_changes_served ++ table.server_looks_served ++ table.server_changes_served) c.args.word.now _ c.in-Some.ensures)

pub returns-in-Some-strings_change : goal.returns-in-Some-strings_change
returns-in-Some-strings_change c =
    (named_there table.strings_looks_served (table.strings_changes_served ++ table.keys_looks_served ++ table.keys_changes_served ++ table.server_looks_served ++ table.server_changes_served) c.args.word.now _ c.in_default.ensures
    (named_here table.strings_changes_served (table.keys_looks_served ++ table.keys_changes_served ++ table.server_looks_served ++ table.server_changes_served) c.args.word.now _ c.in-Some-strings_change.ensures))

pub returns-in-Some-keys_look : goal.returns-in-Some-keys_look
returns-in-Some-keys_look c =
    (named_there table.strings_looks_served (table.strings_changes_served ++ table.keys_looks_served ++ table.keys_changes_served ++ table.server_looks_served ++ table.server_changes_served) c.args.word.now _ c.in_default.ensures
    (named_there table.strings_changes_served (table.keys_looks_served ++ table.keys_changes_served ++ table.server_looks_served ++ table.server_changes_served) c.args.word.now _ c.in_default-strings_change.ensures
    (named_here table.keys_looks_served (table.keys_changes_served ++ table.server_looks_served ++ table.server_changes_served) c.args.word.now _ c.in-Some-keys_look.ensures)))

pub returns-in-Some-keys_change : goal.returns-in-Some-keys_change
returns-in-Some-keys_change c =
    (named_there table.strings_looks_served (table.strings_changes_served ++ table.keys_looks_served ++ table.keys_changes_served ++ table.server_looks_served ++ table.server_changes_served) c.args.word.now _ c.in_default.ensures
    (named_there table.strings_changes_served (table.keys_looks_served ++ table.keys_changes_served ++ table.server_looks_served ++ table.server_changes_served) c.args.word.now _ c.in_default-strings_change.ensures
    (named_there table.keys_looks_served (table.keys_changes_served ++ table.server_looks_served ++ table.server_changes_served) c.args.word.now _ c.in_default-keys_look.ensures
    (named_here table.keys_changes_served (table.server_looks_served ++ table.server_changes_served) c.args.word.now _ c.in-Some-keys_change.ensures))))

pub returns-in-Some-server_look : goal.returns-in-Some-server_look
returns-in-Some-server_look c =
    (named_there table.strings_looks_served (table.strings_changes_served ++ table.keys_looks_served ++ table.keys_changes_served ++ table.server_looks_served ++ table.server_changes_served) c.args.word.now _ c.in_default.ensures
    (named_there table.strings_changes_served (table.keys_looks_served ++ table.keys_changes_served ++ table.server_looks_served ++ table.server_changes_served) c.args.word.now _ c.in_default-strings_change.ensures
    (named_there table.keys_looks_served (table.keys_changes_served ++ table.server_looks_served ++ table.server_changes_served) c.args.word.now _ c.in_default-keys_look.ensures
    (named_there table.keys_changes_served (table.server_looks_served ++ table.server_changes_served) c.args.word.now _ c.in_default-keys_change.ensures
    (named_here table.server_looks_served (table.server_changes_served) c.args.word.now _ c.in-Some-server_look.ensures)))))

pub returns-in-Some-server_change : goal.returns-in-Some-server_change
returns-in-Some-server_change c =
    (named_there table.strings_looks_served (table.strings_changes_served ++ table.keys_looks_served ++ table.keys_changes_served ++ table.server_looks_served ++ table.server_changes_served) c.args.word.now _ c.in_default.ensures
    (named_there table.strings_changes_served (table.keys_looks_served ++ table.keys_changes_served ++ table.server_looks_served ++ table.server_changes_served) c.args.word.now _ c.in_default-strings_change.ensures
    (named_there table.keys_looks_served (table.keys_changes_served ++ table.server_looks_served ++ table.server_changes_served) c.args.word.now _ c.in_default-keys_look.ensures
    (named_there table.keys_changes_served (table.server_looks_served ++ table.server_changes_served) c.args.word.now _ c.in_default-keys_change.ensures
    (named_there table.server_looks_served (table.server_changes_served) c.args.word.now _ c.in_default-server_look.ensures
    c.in-Some-server_change.ensures)))))
