use Rattle.std.proofs.Common.{ap, ◌∙◌, sym, subst}
use Rattle.std.specs.FinMap as map
use Rattle.nr_model.specs.Keyspace.{Stored}
use Rattle.nr_keyspace.specs.Values.{value_of}
use Rattle.nr_keyspace.specs.Deadlines.{IsReplaced}
use Rattle.nr_keyspace.specs.declared.database.KeyEntry.{KeyEntry}
use Rattle.nr_keyspace.specs.Stores.{stored_of, bytes_of}
use Rattle.nr_keyspace.proofs.Named.{reordered}
use Rattle.nr_keyspace.proofs.Changes.{put_store, put_indexed, refused_indexed, on_err}
use Rattle.nr_keyspace.proofs.database.Database.put.Goals as goal

pub invariant_of-self-in_err-replace : goal.invariant_of-self-in_err-replace
invariant_of-self-in_err-replace c =
    refused_indexed c.self.inside.by_name.entries c.reserve.new.self.entries c.self.inside.deadlines c.replace.new.self c.self.invariant
    c.in_ok-reserve.ensures.entries.2 c.in_err-replace.ensures.err

pub returns-in_err-replace-clause-err : goal.returns-in_err-replace-clause-err
returns-in_err-replace-clause-err c = on_err c.from_residual-in_err-replace.result
    (reordered bytes_of c.self.inside.by_name.entries c.reserve.new.self.entries c.in_ok-reserve.ensures.entries.2 ∙ c.self.view_is)

pub invariant_of-self-2 : goal.invariant_of-self-2
invariant_of-self-2 c =
    let changes = c.in_ok-insert.ensures.updates in
    let entry : KeyEntry = record { value = c.args.value; deadline = c.in_ok-kept.kept } in
    put_indexed c.self.inside.by_name.entries c.reserve.new.self.entries c.insert.new.self.entries c.self.inside.deadlines c.replace.new.self
    c.args.name entry
    c.self.invariant c.in_ok-reserve.ensures.entries.2 changes.1 changes.3
    (subst (λ deadline. IsReplaced c.self.inside.deadlines c.replace.new.self deadline c.args.name) (sym c.in_ok-kept.ensures.kept) c.in_ok-replace.ensures.ok)

pub returns-clause-ok : goal.returns-clause-ok
returns-clause-ok c =
    let changes = c.in_ok-insert.ensures.updates in
    let entry : KeyEntry = record { value = c.args.value; deadline = c.in_ok-kept.kept } in
    put_store c.self.inside.by_name.entries c.reserve.new.self.entries c.insert.new.self.entries c.args.name entry
    c.in_ok-reserve.ensures.entries.2 changes.1 changes.3
    ∙ ap (λ store. map.insert store c.args.name (stored_of entry)) c.self.view_is
    ∙ ap (λ deadline. let stored : Stored = record { value = value_of c.args.value; deadline = deadline } in
    map.insert c.args.self.now c.args.name stored) c.in_ok-kept.ensures.kept
