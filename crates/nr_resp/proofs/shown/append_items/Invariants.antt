use Rattle.std.proofs.Common.{◌≡◌, ◌++◌, ◌∷◌, length, take, decimal}
use Rattle.nr_model.specs.Replies.{line}
use Rattle.nr_resp.proofs.Showing.{item_texts}
use Rattle.nr_resp.proofs.shown.append_items.Given as goal

abbrev pub invariant-loop-item : goal.invariant-loop-item
invariant-loop-item l = l.out.items ≡ l.fn.out.items ++ (42 ∷ line (decimal (length l.items)) ++ item_texts (take l.item-index l.items))
