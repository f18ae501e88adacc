use Rattle.std.proofs.Common.{refl, rules}
use Rattle.nr_keyspace.specs.declared.database.KeyEntry.{KeyEntry}
use Rattle.nr_keyspace.proofs.Changes.{redated_entries, redated_none}
use Rattle.nr_keyspace.proofs.database.redate.Goals as goal

pub returns-in-Some : goal.returns-in-Some
returns-in-Some c =
    let written : KeyEntry = record { value = c.in-Some.entry.now.value; deadline = c.args.deadline } in
    let changes = (c.get_mut.follows.holds written).3 (search rules) in
    redated_entries c.args.by_name.now.entries
    (c.get_mut.follows.lender written).entries c.args.name.now c.in-Some.entry.now written c.in-Some.ensures.value changes.1 changes.3 refl

pub returns-in_default : goal.returns-in_default
returns-in_default c = rw c.get_mut.follows.holds-at-none (redated_none c.args.by_name.now.entries c.args.name.now c.args.deadline c.in_default.ensures.value)
