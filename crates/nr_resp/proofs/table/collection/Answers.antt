use Rattle.std.proofs.Common.{◌++◌}
use Rattle.nr_model.specs.Commands as table
use Rattle.nr_resp.proofs.Names.{named_here, named_there}
use Rattle.nr_resp.proofs.table.collection.Goals as goal

pub returns-in-Some : goal.returns-in-Some
returns-in-Some c =
    (named_here table.lists_looks_served (table.lists_changes_served ++ table.hashes_served ++ table.sets_looks_served ++ table.sets_changes_served ++ table.sorted_sets_served) c.args.word.now _ c.in-Some.ensures)

pub returns-in-Some-lists_change : goal.returns-in-Some-lists_change
returns-in-Some-lists_change c =
    (named_there table.lists_looks_served (table.lists_changes_served ++ table.hashes_served ++ table.sets_looks_served ++ table.sets_changes_served ++ table.sorted_sets_served) c.args.word.now _ c.in_default.ensures
    (named_here table.lists_changes_served (table.hashes_served ++ table.sets_looks_served ++ table.sets_changes_served ++ table.sorted_sets_served) c.args.word.now _ c.in-Some-lists_change.ensures))

pub returns-in-Some-hashes : goal.returns-in-Some-hashes
returns-in-Some-hashes c =
    (named_there table.lists_looks_served (table.lists_changes_served ++ table.hashes_served ++ table.sets_looks_served ++ table.sets_changes_served ++ table.sorted_sets_served) c.args.word.now _ c.in_default.ensures
    (named_there table.lists_changes_served (table.hashes_served ++ table.sets_looks_served ++ table.sets_changes_served ++ table.sorted_sets_served) c.args.word.now _ c.in_default-lists_change.ensures
    (named_here table.hashes_served (table.sets_looks_served ++ table.sets_changes_served ++ table.sorted_sets_served) c.args.word.now _ c.in-Some-hashes.ensures)))

pub returns-in-Some-sets_look : goal.returns-in-Some-sets_look
returns-in-Some-sets_look c =
    (named_there table.lists_looks_served (table.lists_changes_served ++ table.hashes_served ++ table.sets_looks_served ++ table.sets_changes_served ++ table.sorted_sets_served) c.args.word.now _ c.in_default.ensures
    (named_there table.lists_changes_served (table.hashes_served ++ table.sets_looks_served ++ table.sets_changes_served ++ table.sorted_sets_served) c.args.word.now _ c.in_default-lists_change.ensures
    (named_there table.hashes_served (table.sets_looks_served ++ table.sets_changes_served ++ table.sorted_sets_served) c.args.word.now _ c.in_default-hashes.ensures
    (named_here table.sets_looks_served (table.sets_changes_served ++ table.sorted_sets_served) c.args.word.now _ c.in-Some-sets_look.ensures))))

pub returns-in-Some-sets_change : goal.returns-in-Some-sets_change
returns-in-Some-sets_change c =
    (named_there table.lists_looks_served (table.lists_changes_served ++ table.hashes_served ++ table.sets_looks_served ++ table.sets_changes_served ++ table.sorted_sets_served) c.args.word.now _ c.in_default.ensures
    (named_there table.lists_changes_served (table.hashes_served ++ table.sets_looks_served ++ table.sets_changes_served ++ table.sorted_sets_served) c.args.word.now _ c.in_default-lists_change.ensures
    (named_there table.hashes_served (table.sets_looks_served ++ table.sets_changes_served ++ table.sorted_sets_served) c.args.word.now _ c.in_default-hashes.ensures
    (named_there table.sets_looks_served (table.sets_changes_served ++ table.sorted_sets_served) c.args.word.now _ c.in_default-sets_look.ensures
    (named_here table.sets_changes_served (table.sorted_sets_served) c.args.word.now _ c.in-Some-sets_change.ensures)))))

pub returns : goal.returns
returns c =
    (named_there table.lists_looks_served (table.lists_changes_served ++ table.hashes_served ++ table.sets_looks_served ++ table.sets_changes_served ++ table.sorted_sets_served) c.args.word.now _ c.in_default.ensures
    (named_there table.lists_changes_served (table.hashes_served ++ table.sets_looks_served ++ table.sets_changes_served ++ table.sorted_sets_served) c.args.word.now _ c.in_default-lists_change.ensures
    (named_there table.hashes_served (table.sets_looks_served ++ table.sets_changes_served ++ table.sorted_sets_served) c.args.word.now _ c.in_default-hashes.ensures
    (named_there table.sets_looks_served (table.sets_changes_served ++ table.sorted_sets_served) c.args.word.now _ c.in_default-sets_look.ensures
    (named_there table.sets_changes_served (table.sorted_sets_served) c.args.word.now _ c.in_default-sets_change.ensures
    c.sorted_sets.ensures)))))
