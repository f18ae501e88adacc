use Rattle.std.proofs.Common.{◌≡◌, map, take}
use Rattle.std.specs.Map.Iter.{deref}
use Rattle.nr_model.specs.Replies.{Bulk}
use Rattle.nr_resp.specs.Shown.{item_reply}
use Rattle.nr_resp.proofs.shown.Shown.bulks.Given as goal

-- those before are shown
abbrev pub invariant-loop-text : goal.invariant-loop-text
invariant-loop-text l = map item_reply l.items.items ≡ map Bulk (map deref (take l.text-index l.texts))
