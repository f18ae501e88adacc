use Rattle.std.proofs.Common.{not, refl, rules, ap, ◌∙◌, sym}
use Rattle.std.specs.Option.{option_map}
use Rattle.std.specs.FinMap as map
use Rattle.nr_model.specs.Keyspace as model
use Rattle.nr_model.specs.Keyspace.{Stored}
use Rattle.nr_keyspace.specs.Stores.{bytes_of, store_of, stored_of, is_undated}
use Rattle.nr_keyspace.specs.declared.database.KeyEntry.{KeyEntry}
use Rattle.nr_keyspace.proofs.Named.{inserted, get-store}
use Rattle.nr_keyspace.proofs.Changes.{entry_kept, not_some, on_err}
use Rattle.nr_keyspace.proofs.database.write_text.Goals as goal

pub returns-in_default-clause-exact : goal.returns-in_default-clause-exact
returns-in_default-clause-exact c =
    sym (ap is_undated (get-store bytes_of c.args.by_name.now.entries c.args.name.now ∙ ap (option_map stored_of) (sym c.in_default.ensures.value)))

pub returns-then-is_some-clause-exact : goal.returns-then-is_some-clause-exact
returns-then-is_some-clause-exact c =
    sym (ap is_undated (get-store bytes_of c.args.by_name.now.entries c.args.name.now ∙ ap (option_map stored_of) (sym c.in-Some.ensures.value))
    ∙ ap not (sym c.is_some.ensures ∙ c.if-is_some.true))

pub returns-then-is_some-clause-ok : goal.returns-then-is_some-clause-ok
returns-then-is_some-clause-ok c =
    let entry = c.in-Some.held.now in
    let changes = (c.get_mut.follows.holds entry).3 (search rules) in
    entry_kept c.args.by_name.now.entries (c.get_mut.follows.lender entry).entries c.args.name.now entry entry c.in-Some.ensures.value changes.1 changes.3 refl

pub returns-in_err-write-clause-err : goal.returns-in_err-write-clause-err
returns-in_err-write-clause-err c =
    let entry = c.in-Some.held.now in
    let written : KeyEntry = record { value = c.write.new.self; deadline = entry.deadline } in
    let changes = (c.get_mut.follows.holds written).3 (search rules) in
    on_err c.from_residual.result
    (entry_kept c.args.by_name.now.entries (c.get_mut.follows.lender written).entries c.args.name.now entry written c.in-Some.ensures.value changes.1 changes.3
    (ap (λ value. let stored : Stored = record { value = value; deadline = entry.deadline } in stored) c.in_err-write.ensures.err))

pub returns-clause-exact : goal.returns-clause-exact
returns-clause-exact c =
    sym (ap is_undated (get-store bytes_of c.args.by_name.now.entries c.args.name.now ∙ ap (option_map stored_of) (sym c.in-Some.ensures.value))
    ∙ ap not (sym c.is_some.ensures ∙ c.if-is_some.false))

pub returns-clause-ok : goal.returns-clause-ok
returns-clause-ok c =
    let entry = c.in-Some.held.now in
    let entries = c.args.by_name.now.entries in
    let written : KeyEntry = record { value = c.write.new.self; deadline = entry.deadline } in
    let changes = (c.get_mut.follows.holds written).3 (search rules) in
    inserted bytes_of entries (c.get_mut.follows.lender written).entries c.args.name.now written changes.1 changes.3
    ∙ ap (λ (value : model.Value). let stored : Stored = record { value = value; deadline = entry.deadline } in
    map.insert (store_of bytes_of entries) c.args.name.now stored) c.in_ok-write.ensures.ok
    ∙ ap (λ deadline. let stored : Stored = record { value = model.Text c.args.text.now; deadline = deadline } in
    map.insert (store_of bytes_of entries) c.args.name.now stored) (not_some entry.deadline c.is_some.result c.is_some.ensures c.if-is_some.false)
