use Rattle.std.proofs.Common.{◌≡◌, map, take}
use Rattle.std.specs.FinSet as finset
use Rattle.nr_model.specs.Commands.Sets as sets
use Rattle.nr_resp.specs.Seen.{reply_of}
use Rattle.nr_sets.specs.Lent.{lent}
use Rattle.nr_members.proofs.sets.looks.memberships.Given as goal

abbrev pub invariant-loop-member : goal.invariant-loop-member
invariant-loop-member l =
    map reply_of l.replies.items ≡ map (λ member. sets.membership (finset.contains (lent l.held) member)) (take l.member-index l.members)
