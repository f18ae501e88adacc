use Rattle.std.proofs.Common.{rules, sym, ap, ◌∙◌, subst}
use Rattle.std.specs.Prelude.{Option, Some}
use Rattle.nr_model.specs.Bytes.{Bytes}
use Rattle.nr_model.specs.Keyspace.{key_of}
use Rattle.nr_model.specs.Commands.Held.{items_at}
use Rattle.nr_model.specs.Commands.Lists.{MoveRequest}
use Rattle.nr_list_commands.specs.Relisted.{IsRelisted, Relists}
use Rattle.nr_list_commands.proofs.Moved.{pops, other_is, is_carried, not_refused}
use Rattle.nr_list_commands.proofs.moving.carry.Goals as goal

pub returns-in_err-put_at : goal.returns-in_err-put_at
returns-in_err-put_at g c =
    let old = c.args.keyspace.now in
    let source = c.args.source.now in
    let target = c.args.target.now in
    let request : MoveRequest = record { source = source; target = target; from = c.args.from; to = c.args.to } in
    let taken : IsRelisted (pops c.args.from) old c.edit_items.new.keyspace (key_of c.args.database source) (items_at old c.args.database source) (Some c.in-Some-Some.item) =
    subst (λ (given : Option (Option Bytes)). Relists (pops c.args.from) old c.edit_items.new.keyspace (key_of c.args.database source) (items_at old c.args.database source) given)
    (c.in-Some-Some.is ∙ ap Some c.in-Some-Some.field-0-is) c.in_ok-item.ensures.edited in
    let was = other_is old c.edit_items.new.keyspace c.args.database request c.in-Some-Some.item c.requires.apart taken
    ∙ ap (λ m. items_at m c.args.database target) (sym c.requires.live) ∙ c.in_ok-items_at.ensures.items in
    not_refused g.T.Touched.after c.from_residual-in_err-put_at.result c.put_at.new.keyspace c.args.database c.args.touched.now _
    (items_at c.edit_items.new.keyspace c.args.database target) _ was (search rules) (search rules)

pub returns : goal.returns
returns g c =
    let old = c.args.keyspace.now in
    let source = c.args.source.now in
    let target = c.args.target.now in
    let request : MoveRequest = record { source = source; target = target; from = c.args.from; to = c.args.to } in
    let taken : IsRelisted (pops c.args.from) old c.edit_items.new.keyspace (key_of c.args.database source) (items_at old c.args.database source) (Some c.in-Some-Some.item) =
    subst (λ (given : Option (Option Bytes)). Relists (pops c.args.from) old c.edit_items.new.keyspace (key_of c.args.database source) (items_at old c.args.database source) given)
    (c.in-Some-Some.is ∙ ap Some c.in-Some-Some.field-0-is) c.in_ok-item.ensures.edited in
    is_carried old c.edit_items.new.keyspace c.args.database request c.in-Some-Some.item c.requires.apart taken g.T.Touched.after c.put_at.new.keyspace
    c.args.touched.now c.touch.new.self c.touch-2.new.self c.in_ok-put_at.ensures.put c.in_ok-touch.ensures c.in_ok-touch-2.ensures
