use Rattle.std.proofs.Common.{◌∷◌, decimal, length, refl}
use Rattle.nr_model.specs.Replies.{line}
use Rattle.nr_resp.proofs.Showing.{items_more, items_all}
use Rattle.nr_resp.proofs.shown.append_items.Goals as goal

pub loop-item-preserved : goal.loop-item-preserved
loop-item-preserved c =
    let items = c.args.items.now in
    items_more items c.loop-item.item-index _ _ _ (42 ∷ line (decimal (length items))) _ _ c.loop-item-test.true refl c.loop-item.invariant c.in_ok-append_item.ensures.ok

pub returns-clause-ok : goal.returns-clause-ok
returns-clause-ok c = items_all c.args.items.now c.loop-item.item-index _ _ c.loop-item-test.false c.loop-item.invariant
