use Rattle.std.proofs.Common.{Some, None, refl, ap, ◌∙◌, sym, not}
use Rattle.std.specs.Option.{option_map}
use Rattle.std.specs.FinMap as map
use Rattle.nr_model.specs.Keyspace.{Stored, only_live}
use Rattle.nr_keyspace.specs.Deadlines.{without_deadline}
use Rattle.nr_keyspace.specs.Stores.{stored_of, deadline_of, bytes_of, store_of}
use Rattle.nr_keyspace.proofs.Named.{get-found, removed}
use Rattle.nr_keyspace.proofs.Indexed.{found_there}
use Rattle.nr_keyspace.proofs.Changes.{removed_indexed, shown}
use Rattle.nr_keyspace.proofs.database.Database.remove.Goals as goal

pub returns-in_err-entry-clause-value : goal.returns-in_err-entry-clause-value
returns-in_err-entry-clause-value c = rw c.from_residual.ensures
    (sym (ap (λ o. option_map (λ (s : Stored). s.value) (only_live c.args.now o))
    (get-found bytes_of c.self.inside.by_name.entries c.args.self.now c.args.name.now None c.self.view_is c.in_err-entry.ensures.value)))

pub take-requires : goal.take-requires
take-requires c =
    let entries = c.self.inside.by_name.entries in
    found_there (store_of bytes_of entries) c.self.inside.deadlines c.args.name.now c.get.result c.self.invariant
    (ap deadline_of (get-found bytes_of entries (store_of bytes_of entries) c.args.name.now (Some c.in_ok-entry.entry) refl c.in_ok-entry.ensures.value)
    ∙ sym c.get.ensures)

pub invariant_of-self-2 : goal.invariant_of-self-2
invariant_of-self-2 c =
    let changes = c.in_ok-entry.ensures.updates in
    removed_indexed c.self.inside.by_name.entries c.remove.new.self.entries c.self.inside.deadlines c.take.new.self c.args.name.now
    c.args.name.now c.in_ok-entry.entry
    c.self.invariant c.in_ok-entry.ensures.value refl changes.1 changes.3
    (c.take.ensures ∙ ap (λ deadline. without_deadline c.self.inside.deadlines deadline c.args.name.now) c.get.ensures)

pub returns-clause-value : goal.returns-clause-value
returns-clause-value c =
    let at = get-found bytes_of c.self.inside.by_name.entries c.args.self.now c.args.name.now
    (Some c.in_ok-entry.entry) c.self.view_is c.in_ok-entry.ensures.value in
    sym (ap (option_map (λ (s : Stored). s.value))
    (shown c.args.now (map.get c.args.self.now c.args.name.now) (stored_of c.in_ok-entry.entry)
    (λ entry. stored_of entry.now) c.live.result at c.live.ensures (c.is_none.ensures ∙ ap not c.if-is_none.false)))

pub returns-clause-removed : goal.returns-clause-removed
returns-clause-removed c =
    let changes = c.in_ok-entry.ensures.updates in
    removed bytes_of c.self.inside.by_name.entries c.remove.new.self.entries c.args.name.now changes.1 changes.3
    ∙ ap (λ m. map.remove m c.args.name.now) c.self.view_is
