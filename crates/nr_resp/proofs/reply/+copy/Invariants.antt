use Rattle.std.proofs.Common.{◌≡◌, map, take}
use Rattle.nr_resp.specs.Seen.{reply_of}
use Rattle.nr_resp.proofs.reply.+copy.Given as goal

abbrev pub invariant-copies-loop-each : goal.invariant-copies-loop-each
invariant-copies-loop-each l = map reply_of l.copied.items ≡ map reply_of (take l.each-index l.each-items)
