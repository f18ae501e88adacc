use Rattle.std.proofs.Common.{◌≡◌, map, take}
use Rattle.nr_ordered.specs.Lists.{shown}
use Rattle.nr_zsets.proofs.zset.edits.members_of.Given as goal

abbrev pub invariant-loop-bytes : goal.invariant-loop-bytes
invariant-loop-bytes l = l.members.items ≡ map (λ scored. scored.0) (map shown (take l.bytes-index l.lent))
