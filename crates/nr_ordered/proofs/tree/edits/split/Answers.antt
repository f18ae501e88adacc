use Rattle.std.proofs.Common.{rules, ◌≡◌, ◌++◌, ap, ◌∙◌}
use Rattle.std.specs.List.{insert}
use Rattle.nr_ordered.specs.Lists.{Item}
use Rattle.nr_ordered.proofs.Places.{both_parts}
use Rattle.nr_ordered.proofs.tree.edits.split.Goals as goal

pub returns-clause-ok : goal.returns-clause-ok
returns-clause-ok c =
    let block = c.args.block.now in
    let item : Item = (c.args.bytes.now, c.args.number) in
    let put : c.put_either.new.front ++ c.put_either.new.behind ≡ insert (c.in_ok-front.front ++ c.in_ok-behind.behind) c.args.place item =
    search (rules, c.in_ok-put_either.ensures) in
    ap (λ xs. c.put_either.new.front ++ xs) c.in_ok-node.ensures ∙ put
    ∙ ap (λ xs. insert xs c.args.place item) (both_parts block c.in_ok-front.front c.in_ok-behind.behind c.args.stay c.len-len.result c.len-len.ensures.len
    c.in_ok-front.ensures c.in_ok-behind.ensures)
