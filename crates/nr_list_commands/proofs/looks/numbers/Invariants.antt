use Rattle.std.proofs.Common.{◌≡◌, map, take, pos}
use Rattle.nr_model.specs.Replies.{Int}
use Rattle.nr_resp.specs.Seen.{reply_of}
use Rattle.nr_list_commands.proofs.looks.numbers.Given as goal

abbrev pub invariant-loop-place : goal.invariant-loop-place
invariant-loop-place l = map reply_of l.replies.items ≡ map (λ place. Int (pos place)) (take l.place-index l.places)
