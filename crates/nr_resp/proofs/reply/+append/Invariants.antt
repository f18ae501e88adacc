use Rattle.std.proofs.Common.{◌≡◌, ◌++◌, ◌∷◌, length, take, decimal}
use Rattle.nr_model.specs.Replies.{line}
use Rattle.nr_resp.proofs.Writing.{texts}
use Rattle.nr_resp.proofs.reply.+append.Given as goal

abbrev pub invariant-loop-each : goal.invariant-loop-each
invariant-loop-each l = l.out.items ≡ l.fn.out.items ++ (42 ∷ line (decimal (length l.each-items)) ++ texts (take l.each-index l.each-items))
