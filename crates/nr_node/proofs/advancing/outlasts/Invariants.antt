use Rattle.std.proofs.Common.{◌≡◌, true}
use Rattle.nr_node.proofs.advancing.outlasts.Given as goal

-- nothing changed but whether the server is lent, and it is only where it was
abbrev pub invariant-loop : goal.invariant-loop
invariant-loop l = (l.replica ≡ record l.fn.replica { lent = l.replica.lent }) × (l.replica.lent ≡ true → l.fn.replica.lent ≡ true)
