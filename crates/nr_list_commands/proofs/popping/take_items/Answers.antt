use Rattle.std.proofs.Common.{◌≡◌, ◌++◌, length, map, ap, subst, ◌∙◌, arith}
use Rattle.std.specs.Prelude.{Option, IfNone}
use Rattle.std.specs.Option.{option_to_list}
use Rattle.std.proofs.lemmas.List.{map-append}
use Rattle.nr_model.specs.Bytes.{Bytes}
use Rattle.nr_model.specs.Lists.{seen_from}
use Rattle.nr_model.specs.Commands.Lists.{without_items}
use Rattle.nr_resp.specs.Seen.{reply_of}
use Rattle.nr_list_commands.proofs.Popped.{one_taken, what_is_left, one_is_left}
use Rattle.nr_list_commands.proofs.popping.take_items.Goals as goal

pub returns-in_default-clause-items : goal.returns-in_default-clause-items
returns-in_default-clause-items c =
    let some = one_is_left c.loop.counter c.args.count c.args.end c.args.list.now c.loop.list (map reply_of c.loop.items.items) c.loop-test.true c.requires c.loop.invariant in
    let none : length c.loop.list ≡ 0 = subst (λ (o : Option Bytes). IfNone o (length c.loop.list ≡ 0)) c.in_default.is c.in_ok-item.ensures.none in
    absurd (omega (arith, some, none))

pub returns-in_default-clause-left : goal.returns-in_default-clause-left
returns-in_default-clause-left c =
    let some = one_is_left c.loop.counter c.args.count c.args.end c.args.list.now c.loop.list (map reply_of c.loop.items.items) c.loop-test.true c.requires c.loop.invariant in
    let none : length c.loop.list ≡ 0 = subst (λ (o : Option Bytes). IfNone o (length c.loop.list ≡ 0)) c.in_default.is c.in_ok-item.ensures.none in
    absurd (omega (arith, some, none))

pub loop-preserved : goal.loop-preserved
loop-preserved c =
    rw (c.in_ok-push.ensures.items, map-append reply_of c.loop.items.items)
    (one_taken c.loop.counter c.args.end c.args.list.now c.loop.list c.pop.new.self (map reply_of c.loop.items.items) c.in-Some.item
    (c.in_ok-item.ensures.seen ∙ ap (λ (o : Option Bytes). option_to_list o ++ seen_from c.args.end c.pop.new.self) c.in-Some.is) c.loop.invariant)

pub returns-clause-left : goal.returns-clause-left
returns-clause-left c =
    let turns : c.loop.counter ≡ c.args.count = omega (arith, c.loop-test.false, c.loop.auto.counter-end) in
    what_is_left c.loop.counter c.args.end c.args.list.now c.loop.list (map reply_of c.loop.items.items) c.loop.invariant
    ∙ ap (λ n. without_items c.args.end n c.args.list.now) turns
