use Rattle.std.proofs.Common.{◌≡◌, ◌++◌, map}
use Rattle.nr_model.specs.Hashes.{in_turn}
use Rattle.nr_model.specs.Replies as replies
use Rattle.nr_resp.specs.Shown.{item_reply}
use Rattle.nr_members.proofs.HashesListed.{turns}
use Rattle.nr_members.proofs.hashes.looks.pairs_of.Given as goal

-- what is shown and what is left are all
abbrev pub invariant-loop-field : goal.invariant-loop-field
invariant-loop-field l = map item_reply l.items.items ++ map replies.Bulk (turns l.field-iterator) ≡ map replies.Bulk (in_turn l.fn.hash)
