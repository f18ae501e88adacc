use Rattle.std.proofs.Common.{not, refl, rules, ap, ◌∙◌, sym}
use Rattle.std.specs.Option.{option_map}
use Rattle.std.specs.FinMap as map
use Rattle.nr_model.specs.Keyspace.{Stored}
use Rattle.nr_keyspace.specs.Stores.{bytes_of, store_of, stored_of, deadline_of, is_undated}
use Rattle.nr_keyspace.specs.Values.{value_of}
use Rattle.nr_keyspace.specs.declared.database.KeyEntry.{KeyEntry}
use Rattle.nr_keyspace.proofs.Named.{inserted, get-store}
use Rattle.nr_keyspace.proofs.Changes.{entry_kept, not_some}
use Rattle.nr_keyspace.proofs.database.rewrite.Goals as goal

pub returns-then-is_some-clause-unchanged : goal.returns-then-is_some-clause-unchanged
returns-then-is_some-clause-unchanged c =
    let entry = c.in-Some.entry.now in
    let changes = (c.get_mut.follows.holds entry).3 (search rules) in
    entry_kept c.args.by_name.now.entries (c.get_mut.follows.lender entry).entries c.args.name.now entry entry c.in-Some.ensures.value changes.1 changes.3 refl

pub returns-clause-written : goal.returns-clause-written
returns-clause-written c =
    let written : KeyEntry = record { value = c.args.value; deadline = c.in-Some.entry.now.deadline } in
    let changes = (c.get_mut.follows.holds written).3 (search rules) in
    inserted bytes_of c.args.by_name.now.entries (c.get_mut.follows.lender written).entries c.args.name.now written changes.1 changes.3
    ∙ ap (λ deadline. let stored : Stored = record { value = value_of c.args.value; deadline = deadline } in
    map.insert (store_of bytes_of c.args.by_name.now.entries) c.args.name.now stored)
    (not_some c.in-Some.entry.now.deadline c.is_some.result c.is_some.ensures c.if-is_some.false)

pub returns-clause-undated : goal.returns-clause-undated
returns-clause-undated c =
    ap deadline_of (get-store bytes_of c.args.by_name.now.entries c.args.name.now ∙ ap (option_map stored_of) (sym c.in-Some.ensures.value))
    ∙ not_some c.in-Some.entry.now.deadline c.is_some.result c.is_some.ensures c.if-is_some.false

pub returns-in_default-clause-exact : goal.returns-in_default-clause-exact
returns-in_default-clause-exact c =
    sym (ap (λ o. not (is_undated o))
    (get-store bytes_of c.args.by_name.now.entries c.args.name.now ∙ ap (option_map stored_of) (sym c.in_default.ensures.value)))

pub returns-then-is_some-clause-exact : goal.returns-then-is_some-clause-exact
returns-then-is_some-clause-exact c =
    sym (ap (λ o. not (is_undated o))
    (get-store bytes_of c.args.by_name.now.entries c.args.name.now ∙ ap (option_map stored_of) (sym c.in-Some.ensures.value))
    ∙ ap (λ b. not (not b)) (sym c.is_some.ensures ∙ c.if-is_some.true))

pub returns-clause-exact : goal.returns-clause-exact
returns-clause-exact c =
    sym (ap (λ o. not (is_undated o))
    (get-store bytes_of c.args.by_name.now.entries c.args.name.now ∙ ap (option_map stored_of) (sym c.in-Some.ensures.value))
    ∙ ap (λ b. not (not b)) (sym c.is_some.ensures ∙ c.if-is_some.false))
