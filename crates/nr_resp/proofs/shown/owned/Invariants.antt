use Rattle.std.proofs.Common.{◌≡◌, map, take}
use Rattle.nr_resp.specs.Seen.{reply_of}
use Rattle.nr_resp.specs.Shown.{item_reply}
use Rattle.nr_resp.proofs.shown.owned.Given as goal

abbrev pub invariant-loop-item : goal.invariant-loop-item
invariant-loop-item l = map reply_of l.replies.items ≡ map item_reply (take l.item-index l.items)
