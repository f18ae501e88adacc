use Rattle.std.proofs.Common.{map}
use Rattle.nr_resp.specs.Seen.{reply_of}
use Rattle.nr_ranked.proofs.Taken.{IsTaken}
use Rattle.nr_ranked.proofs.popping.taking.take_first.Given as goal

abbrev pub invariant-loop : goal.invariant-loop
invariant-loop l = IsTaken l.counter l.direction l.fn.zset l.zset (map reply_of l.replies.items)
