use Rattle.std.proofs.Common.{◌≡◌, ◌++◌, map}
use Rattle.std.specs.FinMap as finmap
use Rattle.nr_model.specs.Replies as replies
use Rattle.nr_resp.specs.Shown.{item_reply}
use Rattle.nr_members.proofs.hashes.looks.fields_of.Given as goal

-- what is shown and what is left are all
abbrev pub invariant-loop-field : goal.invariant-loop-field
invariant-loop-field l = map item_reply l.items.items ++ map replies.Bulk l.field-iterator ≡ map replies.Bulk (finmap.keys l.fn.hash)
