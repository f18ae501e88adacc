use Rattle.std.proofs.Common.{◌≡◌, ◌+◌, ◌-◌, ◌∙◌, ap, List, [], length, rules, arith}
use Rattle.std.proofs.lemmas.List.{get_or_read}
use Rattle.nr_model.specs.Bytes.{Bytes}
use Rattle.nr_lists.proofs.Around.{on_true, pushed_inside}
use Rattle.nr_lists.proofs.blocks.push_last_inside.Goals as goal

pub returns-then-branch-clause-put : goal.returns-then-branch-clause-put
returns-then-branch-clause-put c =
    let last : c.len-last.result - 1 + 1 ≡ length c.args.blocks.now.items = search rules in
    pushed_inside c.args.blocks.now.items c.insert_inside.new.blocks.items (c.len-last.result - 1) c.len-len.result c.args.item.now last
    (c.len-len.ensures.len
    ∙ ap (λ (b : List Bytes). length b) (get_or_read c.args.blocks.now.items (c.len-last.result - 1) c.index.result.now (omega (arith, last)) c.index.ensures []))
    (on_true c.in_ok-insert_inside.field-0 c.if-branch.true c.in_ok-insert_inside.ensures.put)
