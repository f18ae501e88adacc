use Rattle.std.proofs.Common.{◌≡◌, true, false, cond, Some, None, refl, rules, ap, ◌∙◌, sym}
use Rattle.std.specs.Option.{option_map}
use Rattle.std.specs.FinMap as map
use Rattle.nr_model.specs.Keyspace.{Stored, only_live}
use Rattle.nr_keyspace.specs.Stores.{bytes_of, store_of, stored_of}
use Rattle.nr_keyspace.specs.Values.{value_of}
use Rattle.nr_keyspace.specs.declared.database.KeyEntry.{KeyEntry}
use Rattle.nr_keyspace.proofs.Named.{inserted, get-store}
use Rattle.nr_keyspace.proofs.Indexed.{live_here}
use Rattle.nr_keyspace.proofs.Changes.{entry_kept, on_err}
use Rattle.nr_keyspace.proofs.Edited.{unedited, edited}
use Rattle.nr_keyspace.proofs.database.edit_at.Goals as goal

pub returns-in_default-clause-ok : goal.returns-in_default-clause-ok
returns-in_default-clause-ok g c =
    let old = store_of bytes_of c.args.by_name.now.entries in
    rw c.get_mut.follows.holds-at-none
    (unedited (g.E.Edit.edits c.args.edit) old old c.args.name.now (only_live c.args.now (map.get old c.args.name.now))
    (ap (only_live c.args.now)
    (get-store bytes_of c.args.by_name.now.entries c.args.name.now ∙ ap (option_map stored_of) (sym c.in_default.ensures.value))) refl)

pub returns-then-not-is_live-clause-ok : goal.returns-then-not-is_live-clause-ok
returns-then-not-is_live-clause-ok g c =
    let entry = c.in-Some.entry.now in
    let entries = c.args.by_name.now.entries in
    let changes = (c.get_mut.follows.holds entry).3 (search rules) in
    let gone : c.is_live.result ≡ false = search (c.if-not-is_live.true) in
    unedited (g.E.Edit.edits c.args.edit) (store_of bytes_of entries) (store_of bytes_of (c.get_mut.follows.lender entry).entries) c.args.name.now
    (only_live c.args.now (map.get (store_of bytes_of entries) c.args.name.now))
    (live_here c.args.now _ (stored_of entry) c.is_live.result
    (get-store bytes_of entries c.args.name.now ∙ ap (option_map stored_of) (sym c.in-Some.ensures.value)) c.is_live.ensures
    ∙ ap (λ b. cond b (Some (stored_of entry)) None) gone)
    (entry_kept entries (c.get_mut.follows.lender entry).entries c.args.name.now entry entry c.in-Some.ensures.value changes.1 changes.3 refl)

pub returns-in_err-given-clause-err : goal.returns-in_err-given-clause-err
returns-in_err-given-clause-err g c =
    let entry = c.in-Some.entry.now in
    let entries = c.args.by_name.now.entries in
    let written : KeyEntry = record { value = c.edit.new.value; deadline = entry.deadline } in
    let changes = (c.get_mut.follows.holds written).3 (search rules) in
    on_err c.from_residual.result
    (entry_kept entries (c.get_mut.follows.lender written).entries c.args.name.now entry written c.in-Some.ensures.value changes.1 changes.3
    (ap (λ value. let stored : Stored = record { value = value; deadline = entry.deadline } in stored) c.in_err-given.ensures.err))

pub returns-clause-ok : goal.returns-clause-ok
returns-clause-ok g c =
    let entry = c.in-Some.entry.now in
    let entries = c.args.by_name.now.entries in
    let written : KeyEntry = record { value = c.edit.new.value; deadline = entry.deadline } in
    let changes = (c.get_mut.follows.holds written).3 (search rules) in
    let live : c.is_live.result ≡ true = search (c.if-not-is_live.false) in
    edited (g.E.Edit.edits c.args.edit) (store_of bytes_of entries) (store_of bytes_of (c.get_mut.follows.lender written).entries) c.args.name.now
    (only_live c.args.now (map.get (store_of bytes_of entries) c.args.name.now)) (stored_of entry) c.in_ok-given.given
    (live_here c.args.now _ (stored_of entry) c.is_live.result
    (get-store bytes_of entries c.args.name.now ∙ ap (option_map stored_of) (sym c.in-Some.ensures.value)) c.is_live.ensures
    ∙ ap (λ b. cond b (Some (stored_of entry)) None) live)
    record {
      value = value_of c.edit.new.value;
      allowed = c.in_ok-given.ensures.ok;
      written = inserted bytes_of entries (c.get_mut.follows.lender written).entries c.args.name.now written changes.1 changes.3;
    }
